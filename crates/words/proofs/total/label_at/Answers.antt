use Rattle.words.proofs.PartLaws.{label_clipped}
use Rattle.words.proofs.total.label_at.Goals as goal

pub returns : goal.returns
returns c = search label_clipped
