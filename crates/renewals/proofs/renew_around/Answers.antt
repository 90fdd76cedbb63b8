use Rattle.renewals.proofs.SpineLaws.{around_right, around_left, around_two}
use Rattle.renewals.proofs.renew_around.Goals as goal

pub returns-then-row-eq0 : goal.returns-then-row-eq0
returns-then-row-eq0 c =
    let both =
    around_right c.args.limits c.args.table.now c.args.store.now c.args.c c.args.below c.args.above
    _ c.row_of-row.ensures _ c.if-row-eq0.true c.renew_son.ensures in
    record { value = both.0; table_after = both.1 }

pub returns-then-row-eq0-2 : goal.returns-then-row-eq0-2
returns-then-row-eq0-2 c =
    let both =
    around_left c.args.limits c.args.table.now c.args.store.now c.args.c c.args.below c.args.above
    _ c.row_of-row.ensures _ c.if-row-eq0.false c.if-row-eq0-2.true c.renew_son-then-row-eq0-2.ensures in
    record { value = both.0; table_after = both.1 }

pub returns : goal.returns
returns c =
    let both =
    around_two c.args.limits c.args.table.now c.args.store.now c.args.c c.args.below c.args.above
    _ c.row_of-row.ensures _ _ c.if-row-eq0.false c.if-row-eq0-2.false c.renew_two.ensures.value c.renew_two.ensures.table_after in
    record { value = both.0; table_after = both.1 }
