pub mod GivenBack
pub mod Fair
pub mod Has
pub mod Puts
