-- The laws, by subject; each function has its proof in a folder of its own.
pub mod StateLaws
pub mod Fourteen
pub mod FreshFollows
