-- The definitions that the contracts cite, in reading order.
pub mod Texts
pub mod Lines
