pub mod Apart
pub mod Begins
pub mod Begun
pub mod Brought
pub mod Dropped
pub mod Dropping
pub mod Ends
pub mod Entries
pub mod Filing
pub mod Finished
pub mod Followed
pub mod Following
pub mod Fresh
pub mod Going
pub mod Good
pub mod GoodDrops
pub mod LastEnd
pub mod Leaving
pub mod Logs
pub mod MayFlush
pub mod NextNames
pub mod Openings
pub mod PutFiles
pub mod Reaches
mod RoomFor
pub mod Segments
pub mod Showing
mod StoreLeft
pub mod StoreNames
pub mod StoreOnly
pub mod StoreOrdered
mod StoreTables
pub mod Tables
pub mod Taken
mod WorkedComing
mod WorkedDeeds
mod WorkedEnds
mod WorkedEntry
mod WorkedFiles
