use Rattle.paths.specs.Paths.{put_least}
use Rattle.paths.proofs.put_least.Goals as goal

pub returns : goal.returns
unfolding put_least
returns c = simp (c.prefixed.ensures, c.linked_row-linked.ensures, c.row_of.ensures, c.row_of-row.ensures)
    at c.put_row.ensures
