pub mod Lent
pub mod Limits
pub mod Payload
pub mod Reading
pub mod Refusals
pub mod Stored
