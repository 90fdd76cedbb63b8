use borrow.Author.Rules.{rules}
use native.Mathlib.Omega.{arith}
use Rattle.slots.proofs.Bytes.{part_cleared}
use Rattle.slots.proofs.clear_label.Goals as goal

pub returns : goal.returns
returns c =
    part_cleared _ _ _ _ _ _ _ _ c.part_start.ensures.value c.min-start.ensures c.min-n.ensures (omega arith)
    (search rules)
