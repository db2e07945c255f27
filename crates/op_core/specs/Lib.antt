pub mod Chains
pub mod ChainFields
pub mod CountWords
pub mod Tallies
