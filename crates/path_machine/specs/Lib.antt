pub mod Accepts
pub mod SeatSteps
pub mod Spans
pub mod Steps
pub mod ListKept
