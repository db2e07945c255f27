-- The groups of the orders, and the turns.
pub mod OneGroup
pub mod Groups
pub mod TurnTaken
pub mod HeldTurns
pub mod FoundCurrent
pub mod OtherSteps
pub mod Expires
pub mod Issues
pub mod Registers
pub mod Closes
pub mod KeepsOrders
pub mod NobodyAbove
pub mod GroupsMove
pub mod KeepsFew
pub mod KeepsSwitchHolders
