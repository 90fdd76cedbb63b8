pub mod Represents
pub mod Reading
pub mod Clauses
pub mod Offsets
pub mod ChargeWord
pub mod Paths
pub mod Depths
