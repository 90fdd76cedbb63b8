use Prim.Native.Nat.{◌-◌, ◌<◌}
use native.Mathlib.Omega.{arith}
use Rattle.nodes.proofs.Rows.{live, live_row, live_slot}
use Rattle.traces.proofs.TraceSteps.{trace_halted, trace_found, trace_onward}
use Rattle.traces.proofs.PathBounds.{can_lengthen}
use Rattle.traces.proofs.TraceNeeds.{can_end, can_go_on}
use Rattle.traces.proofs.tracing.+trace_from.Goals as goal

pub returns-then-halts : goal.returns-then-halts
returns-then-halts t c = search trace_halted

pub read_row-row-requires : goal.read_row-row-requires
read_row-row-requires t c = search live_row

pub visit-requires : goal.visit-requires
visit-requires t c = search live_slot

pub found-requires : goal.found-requires
found-requires t c = search (can_end, live)

pub returns-in-Found : goal.returns-in-Found
returns-in-Found t c = search trace_found

pub trace_from-deeper-requires : goal.trace_from-deeper-requires
trace_from-deeper-requires t c =
    let node = live _ _ _ _ _ c.halts.ensures c.if-halts.false in
    let room = node.room in
    let onward = c.after-next.ensures.onward in
    let visits = onward.visits in
    let falls : c.args.limits.depth - c.after-next.result.visits < t = omega (arith, c.decreases) in
    (falls, can_go_on _ _ _ _ node _ onward c.requires)

pub longer-requires : goal.longer-requires
longer-requires t c =
    can_lengthen _ _ _ _ _ _ _ _ _ c.requires c.after-next.ensures.onward c.trace_from-deeper.ensures c.from.ensures

pub returns-in-Onward : goal.returns-in-Onward
returns-in-Onward t c = search trace_onward
