pub mod PartLaws
pub mod OrderTests
pub mod GapLaws
pub mod SideLaws
pub mod FieldLaws
pub mod AloneLaws
pub mod TieLaws
pub mod WindowLaws
