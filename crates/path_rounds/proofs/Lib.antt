pub mod MarkerClaims
pub mod OldestMoves
pub mod BarrierIssues
