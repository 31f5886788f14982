-- The laws, by subject; each function has its proof in a folder of its own.
pub mod OutcomeLaws
pub mod Kept
pub mod OrderLaws
pub mod LineLaws
pub mod Told
pub mod Tabled
