pub mod Asks
pub mod Built
pub mod Given
pub mod Numbers
pub mod Options
pub mod Orders
