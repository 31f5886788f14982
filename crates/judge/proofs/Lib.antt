-- Laws of windings and of judging, for this crate's proofs and those of later crates.
pub mod ScannedLaws
pub mod WoundLaws
pub mod AllLaws
pub mod JudgeLaws
