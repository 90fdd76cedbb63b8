pub mod Fits
pub mod Between
