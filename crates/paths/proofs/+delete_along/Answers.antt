use Rattle.paths.specs.Paths.{delete_along}
use Rattle.paths.proofs.Recursions.{deleted_below}
use Rattle.paths.proofs.+delete_along.Goals as goal

pub returns-then-length-eq0 : goal.returns-then-length-eq0
unfolding delete_along
returns-then-length-eq0 t c = simp c.if-length-eq0.true c.cut.ensures

pub returns : goal.returns
returns t c =
    deleted_below c.args.length c.args.path c.args.height c.args.table.now c.args.c
    c.args.fields.place c.args.fields.side c.if-length-eq0.false c.flip_of-flip.ensures c.row_on-row.ensures
    c.delete_along-deeper.ensures c.shrink.ensures
