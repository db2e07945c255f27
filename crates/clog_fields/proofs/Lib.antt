pub mod AppendedParts
pub mod Texts
pub mod Values
pub mod Readers
pub mod Grammar
pub mod Columns
