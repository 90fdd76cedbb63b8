use Rattle.slots.specs.Slots.{after_freed}
use Rattle.slots.proofs.free_slot.Goals as goal

pub returns : goal.returns
unfolding after_freed
returns c = simp (c.put_row.ensures, c.word-next.ensures) at c.set_word.ensures
