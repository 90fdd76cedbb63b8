pub mod Windows
pub mod Gapped
