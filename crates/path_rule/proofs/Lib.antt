pub mod places
pub mod boxes
pub mod log
pub mod moves
pub mod seats
