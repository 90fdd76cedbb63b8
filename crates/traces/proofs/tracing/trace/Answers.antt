use Rattle.traces.proofs.TraceBounds.{trace_from_root}
use Rattle.traces.proofs.tracing.trace.Goals as goal

pub returns : goal.returns
returns c = let both = trace_from_root _ _ _ _ _ c.requires c.trace_from.ensures in record { value = both.0; trace_fits = both.1 }
