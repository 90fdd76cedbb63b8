-- `entries::groups::put` meets its contract. The invariant: the groups of what is left of the number, from the next
-- position on, are what is left to write. The measure is what is left of the number.
use Rattle.files.specs.Groups.{groups_of}
use Rattle.words.proofs.Filling.{Left}
use Rattle.entries.proofs.groups.put.Given as goal

abbrev pub invariant-loop-rest : goal.invariant-loop-rest
invariant-loop-rest l = Left (groups_of l.n) l.initial.output l.at (groups_of l.rest) l.output l.next

abbrev pub decreases-loop-rest : goal.decreases-loop-rest
decreases-loop-rest l = l.rest
