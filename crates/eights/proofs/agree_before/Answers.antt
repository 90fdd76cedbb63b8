use native.Mathlib.Omega.{arith}
use borrow.Author.Tests.{not-true, not-false}
use Rattle.eights.proofs.AgreeLaws.{agree_short, agree_other_short, agree_all, agree_stops, agree_next}
use Rattle.eights.proofs.agree_before.Goals as goal
use Rattle.eights.proofs.agree_before.Goals.{then-x-end-via-then-x-end, then-x-end-via-else-x-end+then-y-end}

pub returns-then-x-end : goal.returns-then-x-end
returns-then-x-end c =
    elim c.then-x-end.branch [
      | then-x-end-via-then-x-end w ↦ agree_short _ _ _ c.requires w.if-x-end.true
      | then-x-end-via-else-x-end+then-y-end w ↦ agree_other_short _ _ _ c.requires w.if-y-end.true
    ]

pub returns-then-not-same_letter : goal.returns-then-not-same_letter
returns-then-not-same_letter c = search (agree_stops, not-true, arith)

pub loop-i-preserved : goal.loop-i-preserved
loop-i-preserved c = search (agree_next, not-false, arith)

pub returns : goal.returns
returns c = search (agree_all, arith)
