pub mod Pieces
pub mod Loop
pub mod Grammar
pub mod Payloads
pub mod Decoding
pub mod Passed
pub mod Judged
pub mod LentReading
