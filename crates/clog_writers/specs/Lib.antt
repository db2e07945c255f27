pub mod Logged
pub mod Settled
pub mod Placed
pub mod Written
pub mod Left
pub mod Worked
pub mod WorkedTally
