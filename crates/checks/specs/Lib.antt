pub mod Check
pub mod Fits
