use borrow.Author.Tests.{ne_eqb}
use Rattle.gaps.proofs.AloneLaws.{no_place, no_side, side_alone}
use Rattle.gaps.proofs.WindowLaws.{not_there, with_upper, with_lower, may_tie}
use Rattle.gaps.proofs.gaps_in.Goals as goal
use Rattle.gaps.proofs.gaps_in.Goals.{then-place-eq0-via-then-place-eq0, then-place-eq0-via-else-place-eq0+then-side-gt1}

pub returns-then-place-eq0 : goal.returns-then-place-eq0
returns-then-place-eq0 c =
    elim c.then-place-eq0.branch [
      | then-place-eq0-via-then-place-eq0 w ↦ search no_place
      | then-place-eq0-via-else-place-eq0+then-side-gt1 w ↦ search no_side
    ]

pub returns-then-near-eq0 : goal.returns-then-near-eq0
returns-then-near-eq0 c = search side_alone

pub returns-then-not-parts_at : goal.returns-then-not-parts_at
returns-then-not-parts_at c = search not_there

pub returns-then-upward : goal.returns-then-upward
returns-then-upward c = search with_upper

pub by_lower-requires-clause-may_tie : goal.by_lower-requires-clause-may_tie
by_lower-requires-clause-may_tie c = may_tie _ _ _ _ _ _ _ _ c.requires _ _ _ c.toward-near.ensures
    c.parts_at.ensures c.if-not-parts_at.false (ne_eqb _ _ c.if-upward.false) c.if-place-eq0.false

pub returns-else-upward : goal.returns-else-upward
returns-else-upward c = search with_lower
