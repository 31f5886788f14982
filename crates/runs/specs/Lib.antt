-- The definitions that the contracts cite, in reading order.
pub mod Looks
pub mod Runs
pub mod LookingBack
pub mod Running
