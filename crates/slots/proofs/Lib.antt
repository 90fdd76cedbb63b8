pub mod SlotLaws
pub mod Bytes
