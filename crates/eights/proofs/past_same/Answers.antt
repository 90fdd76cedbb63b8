use native.Mathlib.Omega.{arith}
use borrow.Author.Tests.{not-false}
use Rattle.eights.proofs.EightLaws.{passed_eight}
use Rattle.eights.proofs.past_same.Goals as goal

pub loop-i-preserved : goal.loop-i-preserved
loop-i-preserved c = (omega arith, (omega arith, search (passed_eight, not-false)))
