pub mod RowLaws
pub mod NodeTests
pub mod NodeLaws
