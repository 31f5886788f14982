-- The laws, by subject; each function has its proof in a folder of its own.
pub mod Buffers
pub mod FormLaws
pub mod FormSteps
pub mod NumberLaws
pub mod WiderLaws
pub mod FormExactly
pub mod NumberTrip
