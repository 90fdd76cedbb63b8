pub mod Texts
pub mod Puts
