use Rattle.nodechecks.proofs.RowLaws.{charge_by_square}
use Rattle.nodechecks.proofs.charge_passes.Goals as goal

pub returns : goal.returns
returns c = search charge_by_square
