use Rattle.sides.specs.Rows.{flipped}
use Rattle.sides.proofs.rows.flip_row.Goals as goal

pub returns-then-flip : goal.returns-then-flip
unfolding flipped
returns-then-flip c = simp (c.if-flip.true, c.mirrored.ensures)

pub returns-else-flip : goal.returns-else-flip
unfolding flipped
returns-else-flip c = simp c.if-flip.false
