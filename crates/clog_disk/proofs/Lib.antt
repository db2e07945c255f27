pub mod Moments
pub mod Named
pub mod Telling
mod Calls
mod MovedFiles
mod Past
mod Samples
mod States
mod Undoing
mod Worked
