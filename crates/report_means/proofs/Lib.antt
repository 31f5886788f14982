-- The theorems, by statement; `GrowLaws` and `FirstMost` are laws of the figures that they go by.
pub mod GrowLaws
pub mod FirstMost
pub mod AllSettings
