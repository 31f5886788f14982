-- The definitions that the contracts cite.
pub mod Feeds
