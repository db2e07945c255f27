pub mod Members
pub mod ClosedBounds
pub mod LastEnds
