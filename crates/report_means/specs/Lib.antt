-- The statements.
pub mod AllSettings
