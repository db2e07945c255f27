pub mod Causes
pub mod Checks
pub mod EntryLaws
pub mod HeaderLaws
pub mod MarkerLaws
pub mod Pieces
