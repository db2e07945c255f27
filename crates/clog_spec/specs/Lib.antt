pub mod Crc
pub mod Names
pub mod Segment
pub mod Sizes
