-- `traces::tracing::trace_from` meets its contract. Each return is a step of the definition.
-- The measure is the number of nodes left to visit.
use Prim.Native.Nat.{◌-◌}
use Rattle.traces.proofs.tracing.+trace_from.Given as goal

abbrev pub decreases-trace_from : goal.decreases-trace_from
decreases-trace_from l = l.limits.depth - l.spot.visits
