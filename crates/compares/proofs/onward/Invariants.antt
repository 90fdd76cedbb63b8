-- `compares::onward` meets its contract.
-- The invariant: what is left to compare at the index reached is what was left at the start.
use Prim.Native.Nat.{◌≤◌}
use mathlib.Core.Path.{◌≡◌}
use Rattle.compares.specs.Compares.{rest}
use Rattle.compares.proofs.onward.Given as goal

abbrev pub invariant-loop-i : goal.invariant-loop-i
invariant-loop-i g l = (l.i ≤ l.end) × (rest l.x l.y l.i ≡ rest l.x l.y l.from)
