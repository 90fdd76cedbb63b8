pub mod Labels
pub mod Letters
pub mod Neighbours
pub mod Shared
