-- Segments whose last sections a crash has torn.
pub mod Marks
pub mod Reading
pub mod Torn
pub mod Whole
