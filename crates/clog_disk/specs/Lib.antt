pub mod Causes
pub mod Changes
pub mod Files
pub mod Images
pub mod InMemory
pub mod InMemoryLaws
pub mod Sample
pub mod Stored
