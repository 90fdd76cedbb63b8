use native.Mathlib.Omega.{arith}
use Rattle.eights.proofs.EightLaws.{packed_eight}
use Rattle.eights.proofs.eight_at.Goals as goal

pub returns : goal.returns
returns c = packed_eight _ _ _ c.requires (λ k. let fits = c.type_inv.bytes k in omega arith)
    c.from_le_bytes.ensures
