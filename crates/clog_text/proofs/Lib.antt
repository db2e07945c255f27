pub mod Splitting
pub mod Objects
pub mod UpdateLists
pub mod CellPrinted
pub mod FileReading
pub mod FileParts
pub mod UsualLines
