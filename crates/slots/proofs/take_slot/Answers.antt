use Rattle.slots.proofs.SlotLaws.{taken_above, taken_freed}
use Rattle.slots.proofs.take_slot.Goals as goal

pub returns-in_default : goal.returns-in_default
returns-in_default c =
    let both = taken_above _ _ _ c.pop_free.ensures.value c.pop_free.ensures.table_after c.in_default.is
    c.word-mark.ensures c.set_word.ensures in
    record { value = both.0; table_after = both.1 }

pub returns : goal.returns
returns c =
    let both = taken_freed _ _ c.pop_free.ensures.value c.pop_free.ensures.table_after c.in-Some.is in
    record { value = both.0; table_after = both.1 }
