use Rattle.std.proofs.Common.{rules}
use Rattle.verdicts.specs.Verdicts.{update_verdict}
use Rattle.verdicts.proofs.labelled.first_refusal.Goals as goal

pub returns-in_err-with_label : goal.returns-in_err-with_label
unfolding update_verdict
returns-in_err-with_label c = search rules

pub returns : goal.returns
unfolding update_verdict
returns c = search rules
