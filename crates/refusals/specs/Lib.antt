-- The definitions that the contracts cite, in reading order.
pub mod Refusals
pub mod Outcomes
pub mod Order
