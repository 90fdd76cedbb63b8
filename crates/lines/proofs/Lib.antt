pub mod Labels
pub mod Asks
