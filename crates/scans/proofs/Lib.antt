pub mod NumberLaws
pub mod OrderLaws
pub mod EntryLaws
pub mod ScanLaws
