pub mod CellKeys
pub mod NameReading
pub mod NameText
pub mod Padded
pub mod Positions
pub mod Sizes
pub mod TextRows
