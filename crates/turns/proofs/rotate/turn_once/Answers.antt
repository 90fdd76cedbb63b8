use Rattle.turns.specs.Turns.{turn_once}
use mathlib.Core.Path.{refl}
use Rattle.turns.proofs.rotate.turn_once.Goals as goal

pub returns : goal.returns
unfolding turn_once
returns c = record {
  stored = simp (
    c.high_once.ensures,
    c.put_on.ensures,
    c.low_once.ensures,
    c.row_on-son.ensures,
    c.row_on-parent.ensures,
  ) at c.put_on-2.ensures;
  handed = simp (c.row_on-son.ensures, c.row_on-parent.ensures) refl;
}
