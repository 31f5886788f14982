-- The definitions, which later crates use in theirs.
pub mod Members
pub mod Tables
