pub mod Over
pub mod Fits
