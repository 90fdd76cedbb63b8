use Rattle.nodes.proofs.Turns.{compared_row}
use Rattle.nodes.proofs.Yields.{visit_left, visit_right, visit_compared}
use Rattle.nodes.proofs.visit.Goals as goal

pub returns-in-Left-clause-value : goal.returns-in-Left-clause-value
returns-in-Left-clause-value c = search visit_left

pub returns-in-Right-clause-value : goal.returns-in-Right-clause-value
returns-in-Right-clause-value c = search visit_right

pub returns-in-Compare-clause-value : goal.returns-in-Compare-clause-value
returns-in-Compare-clause-value c = search (visit_compared, compared_row)
