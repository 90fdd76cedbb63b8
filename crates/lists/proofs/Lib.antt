pub mod ListLaws
pub mod SoundLists
pub mod ListingLaws
