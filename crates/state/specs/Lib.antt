-- The definitions that the contracts cite; then what they say of 14, and of a fresh state.
pub mod States
pub mod Fourteen
pub mod FreshFollows
