mod Follows
mod Levels
mod LongWords
pub mod OneRequest
mod Refusals
mod Rows
mod SettingLists
mod Taken
mod Tidy
mod TidyOptions
mod Told
mod Turns
mod Uses
mod Walks
