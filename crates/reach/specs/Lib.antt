-- The definitions that the contract cites, in reading order.
pub mod Links
pub mod Floods
