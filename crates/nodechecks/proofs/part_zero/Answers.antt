use Rattle.nodechecks.proofs.RowLaws.{part_tested}
use Rattle.nodechecks.proofs.part_zero.Goals as goal

pub returns : goal.returns
returns c = search part_tested
