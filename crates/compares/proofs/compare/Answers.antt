use native.Mathlib.Omega.{arith}
use Rattle.compares.proofs.Laws.{first_end, first_other_end, first_stops, first_passes}
use Rattle.compares.proofs.compare.Goals as goal

pub returns-then-x-first-clause-result_value : goal.returns-then-x-first-clause-result_value
returns-then-x-first-clause-result_value c = search first_end

pub returns-then-y-first-clause-result_value : goal.returns-then-y-first-clause-result_value
returns-then-y-first-clause-result_value c = search first_other_end

pub returns-then-is_ne-clause-result_value : goal.returns-then-is_ne-clause-result_value
returns-then-is_ne-clause-result_value c = search (first_stops, arith)

pub returns-clause-result_value : goal.returns-clause-result_value
returns-clause-result_value c = search (first_passes, arith)
