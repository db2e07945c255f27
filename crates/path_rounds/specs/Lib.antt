pub mod Passes
pub mod Marks
