pub mod TraceSteps
pub mod StepBounds
pub mod PathBounds
pub mod TraceBounds
pub mod TraceNeeds
