-- The definitions that the contracts cite, in reading order.
pub mod RelayWindings
pub mod Judging
