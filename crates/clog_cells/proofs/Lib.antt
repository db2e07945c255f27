pub mod Batched
pub mod InOrder
pub mod Made
pub mod Merging
pub mod Orders
pub mod Parted
pub mod Parts
pub mod Renewed
pub mod Sorting
mod Words
