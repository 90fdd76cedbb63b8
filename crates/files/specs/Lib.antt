pub mod Groups
pub mod Files
pub mod Saves
pub mod FileReads
pub mod Loads
