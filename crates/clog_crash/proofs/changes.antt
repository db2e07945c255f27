-- What a folder restores to where one of its names has changed.
pub mod BothWays
pub mod Came
pub mod Covering
pub mod Elsewhere
pub mod Gained
pub mod Intervals
pub mod Lost
pub mod Names
pub mod Nothing
