pub mod Parts
pub mod Filled
pub mod Gathered
pub mod Flushed
pub mod Touching
