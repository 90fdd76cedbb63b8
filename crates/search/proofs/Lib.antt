pub mod Moves
pub mod Behind
pub mod Answers
