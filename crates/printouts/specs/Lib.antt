pub mod Printouts
pub mod Rooms
