-- The laws, by subject; each function has its proof in a folder of its own.
pub mod BoolLaws
pub mod SetLaws
pub mod LowestLaws
pub mod SumLaws
