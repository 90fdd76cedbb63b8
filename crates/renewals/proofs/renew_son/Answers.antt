use Rattle.renewals.proofs.RenewalLaws.{renewed_no_son, renewed_only_son}
use Rattle.renewals.proofs.renew_son.Goals as goal

pub returns-then-son-ne0 : goal.returns-then-son-ne0
returns-then-son-ne0 c = search renewed_only_son

pub returns-else-son-ne0 : goal.returns-else-son-ne0
returns-else-son-ne0 c = search renewed_no_son
