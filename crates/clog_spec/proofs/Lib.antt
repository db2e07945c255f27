pub mod Bytes
pub mod Divide
pub mod Examples
pub mod Lengths
pub mod Payloads
pub mod StoredBytes
