pub mod FileLines
pub mod LineMutation
pub mod FileMutations
pub mod Refusals
pub mod CellTexts
pub mod UsualLines
pub mod Made
