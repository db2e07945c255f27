pub mod Entries
pub mod Folder
pub mod Listing
pub mod Passing
pub mod Segments
pub mod Tables
pub mod Whole
