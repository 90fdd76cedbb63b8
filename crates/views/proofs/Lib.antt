pub mod Verdicts
pub mod ViewLaws
