-- Lists and options: what an element, a test or a range of them tells.
pub mod Replaced
pub mod Inserted
pub mod Passing
pub mod Ranges
pub mod Mapped
pub mod Options
pub mod Counted
pub mod Heads
pub mod Ascending
pub mod PartedNotes
