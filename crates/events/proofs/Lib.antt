-- Laws of events, for this crate's proofs and those of later crates.
pub mod EventLaws
pub mod DrawnLaws
pub mod ToldLaws
