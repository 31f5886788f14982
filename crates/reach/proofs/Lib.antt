-- The laws, by subject; `flood` has its proof in a folder of its own.
pub mod FloodLaws
pub mod ReachedLaws
