use Rattle.std.proofs.Common.{◌≡◌, arith}
use Rattle.gaps.proofs.TieLaws.{tie_broken, tie_both}
use Rattle.gaps.proofs.by_lower.Goals as goal

pub returns-else-is_gt : goal.returns-else-is_gt
returns-else-is_gt c = let tie : c.args.lower ≡ c.args.apart = omega arith in search tie_broken

pub returns-then-is_gt : goal.returns-then-is_gt
returns-then-is_gt c = let tie : c.args.lower ≡ c.args.apart = omega arith in search tie_both
