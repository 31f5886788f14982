-- The definitions that the contracts cite, in reading order.
pub mod File
pub mod Writing
