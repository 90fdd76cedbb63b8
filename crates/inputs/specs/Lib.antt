pub mod Inputs
pub mod Reads
