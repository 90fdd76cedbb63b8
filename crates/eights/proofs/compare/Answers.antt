use Rattle.eights.proofs.EightLaws.{found_after}
use Rattle.eights.proofs.compare.Goals as goal

pub returns-clause-result_value : goal.returns-clause-result_value
returns-clause-result_value c = search found_after
