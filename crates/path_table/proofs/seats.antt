-- Seats: what they know behind their calls, and what a closed table tells of its run.
pub mod LastBounds
pub mod FinalBounds
pub mod Ends
pub mod UnderLog
pub mod LastEnds
