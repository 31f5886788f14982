-- The definitions and the statements.
pub mod Dividing
