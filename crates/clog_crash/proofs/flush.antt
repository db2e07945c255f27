-- A table file comes, a segment goes, and a folder is recovered.
pub mod Comes
pub mod Dropped
pub mod Goes
pub mod Linked
pub mod NewFile
pub mod Recovered
pub mod Turns
pub mod WorkedDrop
