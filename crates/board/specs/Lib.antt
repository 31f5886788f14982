-- The definitions that the contracts cite, in reading order.
pub mod Parts
pub mod Rules
pub mod Same
pub mod Sorts
pub mod BreaksNoRule
pub mod SameExactly
