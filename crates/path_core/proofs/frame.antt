-- A step changes one word and one seat, and leaves all others.
pub mod Groups
pub mod Tables
pub mod Turns
pub mod Words
pub mod Seats
pub mod Runs
