pub mod Hulls
pub mod Joined
pub mod Kept
pub mod Union
