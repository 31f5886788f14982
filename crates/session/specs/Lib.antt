-- The definitions that the contracts cite, in reading order.
pub mod Sessions
pub mod Carried
pub mod HandingOut
pub mod Filling
