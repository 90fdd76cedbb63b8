-- `eights::past_same` meets its contract.
-- The invariant: what is left to compare at the index reached is what was left at the start.
-- The measure: the bytes left up to the end.
use Prim.Native.Nat.{◌-◌, ◌≤◌, max}
use mathlib.Core.Path.{◌≡◌}
use Rattle.compares.specs.Compares.{rest}
use Rattle.eights.proofs.past_same.Given as goal

abbrev pub invariant-loop-i : goal.invariant-loop-i
invariant-loop-i l = (l.from ≤ l.i) × ((l.i ≤ max l.from l.end) × (rest l.x l.y l.i ≡ rest l.x l.y l.from))

abbrev pub decreases-loop-i : goal.decreases-loop-i
decreases-loop-i l = l.end - l.i
