-- The laws that the theorems rest on, then the theorems.
pub mod AroundLaws
pub mod WayLaws
pub mod TwoWays
pub mod FiniteArcs
pub mod InnerRows
pub mod Dividing
