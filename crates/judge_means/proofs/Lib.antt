-- The theorems of specs/, each in a file of its statement's name, after the laws that it goes by.
pub mod PathLaws
pub mod Circuits
pub mod Shunts
pub mod Exactness
pub mod Allowances
pub mod Eleven
pub mod Dividing
