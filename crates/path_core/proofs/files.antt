-- The files of tables.
pub mod Retires
pub mod LastFile
pub mod KeepsLast
pub mod RetiredStay
pub mod KeepsRetired
pub mod FilesTrue
pub mod DroppedInFiles
