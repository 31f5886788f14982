-- Laws of the calls that push and release a button, for this crate's proofs and those of later crates.
pub mod PressLaws
