-- The definitions that the contracts cite, in reading order.
pub mod Verdicts
pub mod Walks
