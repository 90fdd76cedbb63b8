use Rattle.std.proofs.Common.{rules, ◌≡◌, suc, ◌+◌, ◌-◌, arith}
use Rattle.loads.proofs.InsertLaws.{inserting_goes_on, insert_fits}
use Rattle.loads.proofs.InsertLaws.{inserting_stops, inserting_ends}
use Rattle.loads.proofs.insert_entries.Goals as goal

pub returns-in_default : goal.returns-in_default
returns-in_default c =
    let one_more : c.args.count - c.loop.counter ≡ suc (c.args.count - (c.loop.counter + 1)) = omega arith in
    inserting_stops _ _ _ _ _ _ _ c.loop.invariant _ one_more _ c.take_entry.ensures.result_value (search rules)

pub insert_ready-requires : goal.insert_ready-requires
insert_ready-requires c =
    let one_more : c.args.count - c.loop.counter ≡ suc (c.args.count - (c.loop.counter + 1)) = omega arith in
    insert_fits _ _ _ _ _ _ _ c.loop.invariant _ one_more _ c.take_entry.ensures.result_value c.in-Some.entry (search rules)

pub loop-preserved : goal.loop-preserved
loop-preserved c =
    let one_more : c.args.count - c.loop.counter ≡ suc (c.args.count - (c.loop.counter + 1)) = omega arith in
    inserting_goes_on _ _ _ _ _ _ _ c.loop.invariant _ one_more _ c.take_entry.ensures.result_value c.in-Some.entry (search rules)
    _ _ _ c.insert_ready.ensures

pub returns : goal.returns
returns c = inserting_ends _ _ _ _ _ _ _ c.loop.invariant (omega arith)
