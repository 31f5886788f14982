-- Laws of lists, for the proofs of later crates.
pub mod MemberLaws
pub mod CountedLaws
pub mod FilledLaws
pub mod TableLaws
