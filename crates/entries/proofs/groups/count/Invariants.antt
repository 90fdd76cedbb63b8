-- `entries::groups::count` meets its contract. The invariant: the groups counted, and those of what is left, are the
-- number's and the one counted first. The measure is what is left of the number.
use Prim.Native.Nat.{◌+◌}
use mathlib.Core.Path.{◌≡◌}
use lib.ListN.{length}
use Rattle.files.specs.Groups.{groups_of}
use Rattle.entries.proofs.groups.count.Given as goal

abbrev pub invariant-loop-above : goal.invariant-loop-above
invariant-loop-above l = l.groups + length (groups_of l.above) ≡ 1 + length (groups_of l.n)

abbrev pub decreases-loop-above : goal.decreases-loop-above
decreases-loop-above l = l.above
