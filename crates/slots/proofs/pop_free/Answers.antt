use Rattle.slots.proofs.SlotLaws.{none_free, first_free_lem}
use Rattle.slots.proofs.pop_free.Goals as goal

pub returns-then-first-eq0-clause-value : goal.returns-then-first-eq0-clause-value
returns-then-first-eq0-clause-value c = search none_free

pub returns-clause-value : goal.returns-clause-value
returns-clause-value c = search first_free_lem
