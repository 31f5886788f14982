-- The definitions that the contracts cite, in reading order.
pub mod Steps
pub mod Moving
