pub mod Rows
pub mod Doubles
pub mod Rotated
