pub mod EightLaws
pub mod AgreeLaws
