use Rattle.compares.proofs.Laws.{one_same, two_same, three_same, four_same}
use Rattle.compares.proofs.same_of_four.Goals as goal

pub returns-then-x-i-2-clause-result_value : goal.returns-then-x-i-2-clause-result_value
returns-then-x-i-2-clause-result_value c = search one_same

pub returns-then-x-i-3-clause-result_value : goal.returns-then-x-i-3-clause-result_value
returns-then-x-i-3-clause-result_value c = search two_same

pub returns-then-x-i-4-clause-result_value : goal.returns-then-x-i-4-clause-result_value
returns-then-x-i-4-clause-result_value c = search three_same

pub returns-clause-result_value : goal.returns-clause-result_value
returns-clause-result_value c = search four_same
