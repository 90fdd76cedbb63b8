pub mod Lands
pub mod Fits
pub mod Gives
pub mod FirstTests
