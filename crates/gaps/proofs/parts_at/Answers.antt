use Rattle.gaps.proofs.GapLaws.{parts_whole}
use Rattle.gaps.proofs.parts_at.Goals as goal

pub returns : goal.returns
returns c = search parts_whole
