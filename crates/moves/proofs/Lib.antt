-- Laws of steps and of the single move, for this crate's proofs and those of later crates.
pub mod MoveLaws
pub mod StepLaws
pub mod MovingLaws
