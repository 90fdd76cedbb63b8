-- `compares::past_fours` meets its contract.
-- The invariant: what is left to compare at the index reached is what was left at the start.
-- The measure: the bytes left up to the shorter end.
use Prim.Native.Nat.{◌-◌, ◌≤◌}
use mathlib.Core.Path.{◌≡◌}
use Rattle.compares.specs.Compares.{rest}
use Rattle.compares.proofs.past_fours.Given as goal

abbrev pub invariant-loop-i : goal.invariant-loop-i
invariant-loop-i l = (l.from ≤ l.i) × ((l.i ≤ l.end) × (rest l.x l.y l.i ≡ rest l.x l.y l.from))

abbrev pub decreases-loop-i : goal.decreases-loop-i
decreases-loop-i l = l.end - l.i
