-- `eights::agree_before` meets its contract.
-- The invariant: what is left to compare at the index reached is what the whole comparison finds.
use mathlib.Core.Path.{◌≡◌}
use Rattle.compares.specs.Compares.{rest}
use Rattle.eights.proofs.agree_before.Given as goal

abbrev pub invariant-loop-i : goal.invariant-loop-i
invariant-loop-i l = rest l.x l.y l.i ≡ rest l.x l.y 0
