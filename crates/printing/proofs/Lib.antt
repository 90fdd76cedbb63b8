pub mod Shown
pub mod SoundShown
pub mod Listed
pub mod Slots
pub mod Printed
pub mod EachLabel
pub mod Filled
