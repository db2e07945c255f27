pub mod Ahead
pub mod Cut
pub mod Laws
pub mod Pieces
pub mod Segment
pub mod Steps
pub mod Walks
