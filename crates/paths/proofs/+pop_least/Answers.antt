use mathlib.Core.Path.{refl}
use Rattle.paths.specs.Paths.{pop_least}
use Rattle.paths.proofs.Recursions.{popped_here, popped_below}
use Rattle.paths.proofs.+pop_least.Goals as goal

pub returns-then-height-eq0 : goal.returns-then-height-eq0
unfolding pop_least
returns-then-height-eq0 t c = simp c.if-height-eq0.true (record { yields = record { stored = refl; handed = refl }; lowest = refl })

pub returns-then-row-eq0 : goal.returns-then-row-eq0
returns-then-row-eq0 t c = rw (popped_here _ _ _ c.if-height-eq0.false c.row_of-row.ensures c.if-row-eq0.true)
    (record { yields = record { stored = refl; handed = refl }; lowest = refl })

pub returns : goal.returns
returns t c =
    popped_below c.args.height c.args.table.now c.args.c c.if-height-eq0.false c.row_of-row.ensures
    c.if-row-eq0.false c.pop_least-deeper.ensures c.shrink-rest.ensures
