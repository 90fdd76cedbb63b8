pub mod Rows
pub mod Turns
pub mod Yields
