use Rattle.std.proofs.Common.{rules}
use Rattle.tables.specs.Outcomes.{view_outcome}
use Rattle.views.proofs.view_check_within.Goals as goal

pub returns-in_err-of_memory : goal.returns-in_err-of_memory
unfolding view_outcome
returns-in_err-of_memory c = search rules

pub returns : goal.returns
unfolding view_outcome
returns c = search rules
