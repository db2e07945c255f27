-- The log: the last marker, and what is pending up to it.
pub mod BuiltSteps
pub mod Issues
pub mod Lending
pub mod Marks
pub mod Behind
pub mod NotesBehind
pub mod NoneDropped
pub mod RestsEmpty
pub mod TrailMemtables
pub mod TrailsTell
pub mod TurnFiled
pub mod FilingStays
pub mod FilesShown
pub mod KeptStays
pub mod OwnWrites
pub mod StoppedTakes
pub mod Deposits
