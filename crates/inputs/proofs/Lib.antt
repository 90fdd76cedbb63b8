pub mod Fresh
pub mod Ahead
pub mod Keeps
pub mod ReadsPrint
