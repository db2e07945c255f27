-- The memtables that writes try, and in which they are placed.
pub mod TableMoves
pub mod Tries
pub mod KeepsLater
pub mod TriesStay
pub mod LooksTry
pub mod RaisesTry
pub mod KeepsTries
pub mod KeepsPlaced
pub mod Closing
pub mod KeepsPlaces
pub mod SeatPlaced
pub mod KeepsOnce
pub mod HoldsInterval
pub mod AtRest
pub mod LaterTries
pub mod NearTries
