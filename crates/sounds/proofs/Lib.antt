pub mod Zeros
pub mod Held
pub mod SlotRows
pub mod SlotParts
pub mod Holds
pub mod SoundIsWritten
