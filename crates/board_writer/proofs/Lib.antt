-- The laws, by subject; each function has its proof in a folder of its own.
pub mod LengthLaws
pub mod WriteLaws
pub mod FileLaws
