pub mod Prints
pub mod Pipes
