use Rattle.words.proofs.PartLaws.{shown_at_lem}
use Rattle.words.proofs.parts.label_at.Goals as goal

pub returns : goal.returns
returns c = search shown_at_lem
