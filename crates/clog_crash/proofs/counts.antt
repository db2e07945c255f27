-- What a folder counts.
pub mod Growing
pub mod OneCount
pub mod Sorted
pub mod WorkedCounts
pub mod WorkedGrown
