-- What a path may lend its keeper: the notes that a sync makes lasting.
pub mod Numbers
pub mod Tiling
pub mod Kept
pub mod Beginnings
pub mod Lendable
pub mod Writable
