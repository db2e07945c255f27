-- What the functions that make steps rest on.
pub mod Asked
pub mod BarriersPut
pub mod SpanGrows
pub mod Filed
pub mod SeatPlaces
pub mod Joining
pub mod Limits
pub mod Logged
pub mod Stepped
