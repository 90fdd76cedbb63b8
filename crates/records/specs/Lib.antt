pub mod Undoubled
pub mod Contents
