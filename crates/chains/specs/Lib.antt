-- The definitions, in reading order.
pub mod Chains
pub mod ChainList
