-- The definitions that the contracts cite, in reading order.
pub mod Settings
pub mod Figures
pub mod Reporting
pub mod BothWays
