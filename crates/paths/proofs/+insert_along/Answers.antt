use mathlib.Core.Path.{refl}
use Rattle.paths.specs.Paths.{insert_along}
use Rattle.paths.proofs.Recursions.{inserted_below}
use Rattle.paths.proofs.+insert_along.Goals as goal

pub returns-then-length-eq0 : goal.returns-then-length-eq0
unfolding insert_along
returns-then-length-eq0 t c = simp c.if-length-eq0.true (record { stored = refl; handed = refl })

pub returns : goal.returns
returns t c =
    inserted_below c.args.length c.args.path c.args.table.now c.args.c c.args.slot
    c.if-length-eq0.false c.flip_of-flip.ensures c.row_on-row.ensures
    c.insert_along-deeper.ensures c.grow.ensures
