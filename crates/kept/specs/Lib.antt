-- The definitions that the contracts cite, in reading order; then what they say of 18, and of the sets that change.
pub mod Kept
pub mod Upkeep
pub mod Eighteen
pub mod OnlyEnds
