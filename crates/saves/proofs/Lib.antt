pub mod SlotLaws
pub mod SavedLaws
pub mod CountLaws
pub mod WriteLaws
pub mod FileFits
pub mod SoundSaves
pub mod SavingLaws
