-- Laws of looks and runs, for this crate's proofs and those of later crates.
pub mod LookLaws
pub mod RunLaws
pub mod RunFits
pub mod BackLaws
pub mod NotchLaws
pub mod CourseLaws
pub mod SeenLaws
pub mod RunningLaws
