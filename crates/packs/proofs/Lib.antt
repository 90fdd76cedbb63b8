pub mod PackedLaws
pub mod Unpacked
