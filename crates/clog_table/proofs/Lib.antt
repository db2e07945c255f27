pub mod Again
pub mod Ending
pub mod Front
pub mod Grammar
pub mod HeadParts
pub mod Keys
pub mod Numbers
pub mod Pieces
mod Written
pub mod OneFault
pub mod Stops
pub mod OneOfBoth
mod AboveLast
