pub mod Recursions
pub mod Rooting
