use Rattle.renewals.proofs.SpineLaws.{spine_none, spine_empty, spine_at_next, spine_over}
use Rattle.renewals.proofs.+renew_spine.Goals as goal

pub returns-then-remaining-eq0-clause-table_after : goal.returns-then-remaining-eq0-clause-table_after
returns-then-remaining-eq0-clause-table_after t c = search spine_none

pub returns-then-slot-eq0-clause-table_after : goal.returns-then-slot-eq0-clause-table_after
returns-then-slot-eq0-clause-table_after t c = search spine_empty

pub returns-then-slot-least-clause-table_after : goal.returns-then-slot-least-clause-table_after
returns-then-slot-least-clause-table_after t c = search spine_at_next

pub returns-clause-table_after : goal.returns-clause-table_after
returns-clause-table_after t c = search spine_over
