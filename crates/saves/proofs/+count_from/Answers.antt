use native.Mathlib.Omega.{arith}
use Rattle.saves.proofs.SavedLaws.{entries_at_depth, entries_at_none, entries_above}
use Rattle.saves.proofs.CountLaws.{counted_none, count_near, count_own, count_far}
use Rattle.saves.proofs.CountLaws.{sum_fits, whole_fits, counted_node}
use Rattle.saves.proofs.+count_from.Goals as goal

pub returns-then-remaining-eq0 : goal.returns-then-remaining-eq0
returns-then-remaining-eq0 t c = search (counted_none, entries_at_depth)

pub returns-then-link-eq0 : goal.returns-then-link-eq0
returns-then-link-eq0 t c = search (counted_none, entries_at_none)

pub returns-then-limits-link : goal.returns-then-limits-link
returns-then-limits-link t c = search (counted_none, entries_above)

pub count_from-before-requires : goal.count_from-before-requires
count_from-before-requires t c = (omega arith, search count_near)

pub slot_length-own-requires-clause-row_len_bound : goal.slot_length-own-requires-clause-row_len_bound
slot_length-own-requires-clause-row_len_bound t c = search count_own

pub count_from-after-requires : goal.count_from-after-requires
count_from-after-requires t c = (omega arith, search count_far)

pub overflow_add-result : goal.overflow_add-result
overflow_add-result t c = search sum_fits

pub overflow_add-result-2 : goal.overflow_add-result-2
overflow_add-result-2 t c = search whole_fits

pub returns : goal.returns
returns t c = search counted_node
