pub mod FieldsTaken
pub mod RecordsTaken
pub mod RecordLaws
pub mod FieldsDerived
pub mod RecordsDerived
pub mod ReadsGrammar
