pub mod Rules
pub mod Shows
