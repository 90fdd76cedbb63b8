pub mod Nodes
pub mod Bounds
