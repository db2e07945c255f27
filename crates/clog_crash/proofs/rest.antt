-- A folder at rest to which a segment is written.
pub mod CutOff
pub mod Firsts
pub mod Keeping
pub mod Left
pub mod Nexts
pub mod Opening
pub mod Rolling
pub mod Sectioned
pub mod Settled
pub mod Settling
pub mod Shown
pub mod Standing
pub mod Tails
pub mod Undamaged
pub mod Untorn
