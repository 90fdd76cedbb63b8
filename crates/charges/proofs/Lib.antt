pub mod FirstTests
pub mod Lands
