-- The slots that the listing gives are within the list, and their lines are those of the labels held.
use Rattle.std.proofs.Common.{refl, arith, length-take}
use Rattle.printing.proofs.Listed.{listed_count, listed_put, unlisted_put}
use Rattle.printing.proofs.held.Held.put_labels.Goals as goal

pub slice_bounds-list-end : goal.slice_bounds-list-end
slice_bounds-list-end g c =
    omega (arith, listed_count _ _ _ _ _ refl c.listing-answer.ensures _ c.in-Ok.is)

pub slice_bounds-put_lines-end : goal.slice_bounds-put_lines-end
slice_bounds-put_lines-end g c =
    simp length-take (omega (arith, listed_count _ _ _ _ _ refl c.listing-answer.ensures _ c.in-Ok.is))

pub returns-in-Ok : goal.returns-in-Ok
returns-in-Ok g c =
    let puts = rw (← c.self.view_is) at c.put_lines.ensures in
    rw (← c.self.view_is) (listed_put _ _ _ _ _ refl c.listing-answer.ensures _ c.in-Ok.is _ _ puts)

pub returns-in_default : goal.returns-in_default
returns-in_default g c =
    rw (← c.self.view_is) (unlisted_put _ _ _ _ _ refl c.listing-answer.ensures _ c.in_default.is _)
