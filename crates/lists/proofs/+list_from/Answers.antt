use native.Mathlib.Omega.{arith}
use Rattle.words.proofs.Fills.{filled_by_none}
use Rattle.lists.proofs.ListLaws.{slots_at_depth, slots_at_none, slots_above, filled_by_node}
use Rattle.lists.proofs.ListLaws.{fits_near, fits_far, next_fits}
use Rattle.lists.proofs.+list_from.Goals as goal

pub returns-then-remaining-eq0 : goal.returns-then-remaining-eq0
returns-then-remaining-eq0 t c = search (filled_by_none, slots_at_depth)

pub returns-then-link-eq0 : goal.returns-then-link-eq0
returns-then-link-eq0 t c = search (filled_by_none, slots_at_none)

pub returns-then-limits-link : goal.returns-then-limits-link
returns-then-limits-link t c = search (filled_by_none, slots_above)

pub list_from-middle-requires : goal.list_from-middle-requires
list_from-middle-requires t c = (omega arith, search fits_near)

pub overflow_add-middle : goal.overflow_add-middle
overflow_add-middle t c = search next_fits

pub list_from-requires : goal.list_from-requires
list_from-requires t c = (omega arith, search fits_far)

pub returns : goal.returns
returns t c = search filled_by_node
