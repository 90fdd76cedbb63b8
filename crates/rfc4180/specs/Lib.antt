pub mod Grammar
pub mod Records
pub mod Rosters
pub mod Agrees
