pub mod Insertions
pub mod Fits
