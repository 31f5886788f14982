-- The published model's words, and the statements, in reading order.
pub mod Circuits
pub mod Shunts
pub mod Exactness
pub mod Allowances
pub mod Eleven
pub mod Dividing
