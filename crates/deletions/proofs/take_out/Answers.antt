use Rattle.paths.proofs.Rooting.{rooted_after}
use Rattle.deletions.proofs.take_out.Goals as goal

pub returns : goal.returns
returns c = search rooted_after
