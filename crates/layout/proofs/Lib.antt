pub mod EntryLaws
pub mod SameLaws
