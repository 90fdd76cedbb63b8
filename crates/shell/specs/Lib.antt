pub mod Shells
pub mod Lent
pub mod Pipes
