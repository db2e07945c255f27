-- Damage of a folder.
pub mod BadTables
pub mod First
pub mod OneSegment
pub mod Places
pub mod WorkedPayload
pub mod WorkedTorn
