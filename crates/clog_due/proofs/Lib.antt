mod BothTables
pub mod Cuts
pub mod DroppedLists
pub mod Due
mod FirstFile
pub mod FolderDue
pub mod FolderGoes
pub mod GoneCuts
pub mod HeldSegments
mod HullRows
pub mod NotePast
pub mod NotePlaced
pub mod OneDroppable
pub mod OrderGoes
mod Picking
pub mod StoreDropped
mod TableLogs
mod WrongOrders
