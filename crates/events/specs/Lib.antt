-- The definitions that the contracts cite.
pub mod Events
pub mod Drawn
