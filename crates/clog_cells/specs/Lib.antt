pub mod Batches
pub mod Lent
pub mod Merge
pub mod Parted
