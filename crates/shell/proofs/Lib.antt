pub mod Writing
pub mod Behind
