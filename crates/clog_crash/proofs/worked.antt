-- The folder of the worked row.
pub mod Cells
pub mod Crash
pub mod Files
pub mod Folder
pub mod Row
pub mod Skipping
