-- A folder over the whole life of what writes to it.
pub mod Cutting
pub mod Resting
pub mod RunLog
pub mod Runs
pub mod Shown
