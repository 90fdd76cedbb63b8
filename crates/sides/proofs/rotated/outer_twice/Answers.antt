use Rattle.sides.proofs.Mirrors.{double_turn_mirrored}
use Rattle.sides.proofs.rotated.outer_twice.Goals as goal

pub returns : goal.returns
returns c = simp double_turn_mirrored
    (simp (c.lowered.ensures, c.double_turn-now.ensures) at c.linked_row.ensures)
