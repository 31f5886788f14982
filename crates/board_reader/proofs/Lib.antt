-- The laws, by subject; each function has its proof in a folder of its own.
pub mod CountsLaws
pub mod EditionLaws
pub mod FieldLaws
pub mod PartLaws
pub mod PartsLaws
pub mod ReadLaws
pub mod TabledLaws
pub mod ToldLaws
