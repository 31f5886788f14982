-- The laws, by subject; each function has its proof in a folder of its own.
pub mod KeptLaws
pub mod UpkeepLaws
pub mod Eighteen
pub mod OnlyEnds
