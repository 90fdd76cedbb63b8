use Rattle.renewals.proofs.SpineLaws.{spines_in_turn}
use Rattle.renewals.proofs.renew_spines.Goals as goal

pub returns : goal.returns
returns c = search spines_in_turn
