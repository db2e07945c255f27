pub mod CauseText
pub mod Fields
pub mod Reading
pub mod Soft
pub mod Spelled
