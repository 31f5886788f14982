-- The laws, by subject; each function has its proof in a folder of its own.
pub mod RuleLaws
pub mod SameLaws
pub mod PaddedLaws
pub mod FineLaws
pub mod WindingLaws
pub mod TallyLaws
pub mod BreaksNoRule
pub mod SameExactly
