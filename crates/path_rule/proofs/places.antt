-- The words: no two places share one, and what is read back from one.
pub mod SamePlace
pub mod ReadBack
pub mod ShownSteps
