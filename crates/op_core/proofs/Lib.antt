pub mod CountWords
pub mod Finished
