-- The parts of the invariant joined, and kept along runs.
pub mod Loosened
pub mod Sizes
pub mod OpeningLog
pub mod OpeningPlaces
pub mod KeepsPlacing
pub mod KeepsLasting
pub mod KeepsFiling
pub mod EveryRun
