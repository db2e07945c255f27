pub mod Halves
pub mod Order
pub mod Spans
pub mod Unions
