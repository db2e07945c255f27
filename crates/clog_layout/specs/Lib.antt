pub mod Ends
pub mod Logged
