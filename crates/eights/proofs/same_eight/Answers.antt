use Rattle.eights.proofs.EightLaws.{eight_found}
use Rattle.eights.proofs.same_eight.Goals as goal

pub returns : goal.returns
returns c = search eight_found
