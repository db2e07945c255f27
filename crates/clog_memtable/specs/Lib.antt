pub mod Filling
pub mod Flushing
pub mod Gathering
pub mod Touched
