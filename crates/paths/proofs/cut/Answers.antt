use mathlib.Core.Path.{refl}
use borrow.Author.Tests.{eq-eqb, ne_eqb}
use Rattle.paths.specs.Paths.{cut}
use Rattle.paths.proofs.Recursions.{cut_moved}
use Rattle.paths.proofs.cut.Goals as goal

pub returns-then-row-eq0 : goal.returns-then-row-eq0
unfolding cut
returns-then-row-eq0 c = simp (← c.row_of-row.ensures, eq-eqb _ _ c.if-row-eq0.true) (record { stored = refl; handed = refl })

pub returns-then-row-eq0-2 : goal.returns-then-row-eq0-2
unfolding cut
returns-then-row-eq0-2 c = simp (← c.row_of-row.ensures, ne_eqb _ _ c.if-row-eq0.false, eq-eqb _ _ c.if-row-eq0-2.true)
    (record { stored = refl; handed = refl })

pub returns : goal.returns
returns c =
    cut_moved c.args.height c.args.table.now c.args.c c.args.fields.place c.args.fields.side
    c.row_of-row.ensures c.if-row-eq0.false c.if-row-eq0-2.false c.pop_least-popped.ensures c.put_least.ensures
    c.shrink.ensures
