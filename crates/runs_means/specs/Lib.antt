-- The statements, in reading order.
pub mod LongerRuns
pub mod Following
pub mod Courses
pub mod Orders
pub mod KeptSets
