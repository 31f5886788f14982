-- The laws, by subject.
pub mod KindLaws
