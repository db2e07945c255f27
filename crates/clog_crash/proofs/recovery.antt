-- A folder is recovered.
pub mod Below
pub mod Decided
pub mod Filed
pub mod Whole
