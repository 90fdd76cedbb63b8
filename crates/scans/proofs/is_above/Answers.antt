use Rattle.std.proofs.Common.{arith}
use Rattle.std.proofs.lemmas.Grind.{common_steps}
use Rattle.scans.proofs.OrderLaws.{above_by_order}
use Rattle.scans.proofs.is_above.Goals as goal

pub returns : goal.returns
returns c =
    above_by_order _ _ _ c.compare.ensures.result_value _
    (λ less. grind (arith, common_steps)) (λ same. grind (arith, common_steps)) (λ more. grind (arith, common_steps))
