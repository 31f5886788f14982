-- Laws of the walk and of verdicts, for this crate's proofs and those of later crates.
pub mod CarryLaws
pub mod NextLaws
pub mod ShownLaws
pub mod ScanLaws
pub mod WalkLaws
pub mod VerdictLaws
