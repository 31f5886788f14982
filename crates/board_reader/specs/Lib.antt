-- The definitions that the contracts cite, in reading order.
pub mod Editions
pub mod Reading
pub mod Rows
