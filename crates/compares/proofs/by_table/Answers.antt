use native.Mathlib.Omega.{arith}
use Rattle.compares.proofs.Laws.{first_end, at_first}
use Rattle.compares.proofs.by_table.Goals as goal

pub returns-then-end-from-clause-result_value : goal.returns-then-end-from-clause-result_value
returns-then-end-from-clause-result_value c = search (first_end, arith)

pub returns-clause-result_value : goal.returns-clause-result_value
returns-clause-result_value c = search at_first
