use Rattle.turns.specs.Turns.{turn_twice}
use mathlib.Core.Path.{refl}
use Rattle.turns.proofs.rotate.turn_twice.Goals as goal

pub returns : goal.returns
unfolding turn_twice
returns c = record {
  stored = simp (c.row_on-middle.ensures, c.row_on-son.ensures, c.row_on-parent.ensures)
      at c.put_twice.ensures;
  handed = simp (c.row_on-son.ensures, c.row_on-parent.ensures) refl;
}
