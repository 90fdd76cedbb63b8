use Rattle.std.proofs.Common.{rules}
use Rattle.charges.specs.Verdicts.{charge_verdict}
use Rattle.charges.proofs.first_refusal.Goals as goal

pub returns-in_err-with_label : goal.returns-in_err-with_label
unfolding charge_verdict
returns-in_err-with_label c = search rules

pub returns-then-not-is_charge : goal.returns-then-not-is_charge
unfolding charge_verdict
returns-then-not-is_charge c = search rules

pub returns : goal.returns
unfolding charge_verdict
returns c = search rules
