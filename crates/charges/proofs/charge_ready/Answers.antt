use Rattle.charges.proofs.Lands.{charge_missing, charge_set}
use Rattle.charges.proofs.charge_ready.Goals as goal

pub returns-then-trace-eq0 : goal.returns-then-trace-eq0
returns-then-trace-eq0 c = search charge_missing

pub returns : goal.returns
returns c = search charge_set
