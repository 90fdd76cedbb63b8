use Rattle.slots.proofs.SlotLaws.{no_root_placed, root_placed}
use Rattle.slots.proofs.set_root_place.Goals as goal

pub returns-then-root-ne0 : goal.returns-then-root-ne0
returns-then-root-ne0 c = search root_placed

pub returns-else-root-ne0 : goal.returns-else-root-ne0
returns-else-root-ne0 c = search no_root_placed
