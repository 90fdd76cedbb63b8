use mathlib.Core.Path.{refl}
use native.Mathlib.Omega.{arith}
use Rattle.files.proofs.GroupLaws.{groups_of_lower, groups_of_last, some_group}
use Rattle.words.proofs.Filling.{left_less, left_none, left_room}
use Rattle.entries.proofs.groups.put.Goals as goal

pub bounds-output-next : goal.bounds-output-next
bounds-output-next c = omega (arith, left_room _ c.loop-rest.invariant c.requires, some_group c.loop-rest.rest)

pub loop-rest-preserved : goal.loop-rest-preserved
loop-rest-preserved c = left_less _ _ _ c.loop-rest.invariant (groups_of_lower c.loop-rest.rest (omega arith))

pub bounds-output-next-2 : goal.bounds-output-next-2
bounds-output-next-2 c = omega (arith, left_room _ c.loop-rest.invariant c.requires, some_group c.loop-rest.rest)

pub returns : goal.returns
returns c = left_none _ (left_less _ _ _ c.loop-rest.invariant (groups_of_last c.loop-rest.rest (omega arith))) refl
