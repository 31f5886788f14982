-- The definitions that the contracts cite, in reading order.
pub mod Conduction
pub mod Neighbours
pub mod Rows
