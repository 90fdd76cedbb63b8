use Rattle.std.proofs.Common.{rules}
use Rattle.search.proofs.Answers.{outcome_refused, outcome_walked}
use Rattle.search.proofs.walks.search_within.Goals as goal

pub returns-in_err-with_label : goal.returns-in_err-with_label
returns-in_err-with_label c =
    outcome_refused _ _ _ _ _ c.with_label.ensures _ _ c.in_err-with_label.was (search rules)

pub returns : goal.returns
returns c = outcome_walked _ _ _ _ _ c.with_label.ensures _ c.in_ok-with_label.was c.walk.ensures
