pub mod GroupLaws
pub mod NumberReads
pub mod GroupReads
pub mod Numbers
pub mod FileLaws
pub mod FileNumbers
pub mod FileEntries
pub mod FileReadLaws
