-- Laws of lines, for this crate's proofs and those of later crates.
pub mod DecimalLaws
pub mod LineLaws
pub mod ToldLaws
