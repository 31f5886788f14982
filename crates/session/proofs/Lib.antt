-- Laws of sessions, for this crate's proofs and those of later crates.
pub mod AdvanceLaws
pub mod ToCome
pub mod ComingLaws
pub mod NextLineLaws
pub mod CallLaws
pub mod FitLaws
pub mod FillLaws
pub mod FilledCalls
pub mod ToldLaws
