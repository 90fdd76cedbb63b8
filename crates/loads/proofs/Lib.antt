pub mod InsertLaws
pub mod LoadLaws
