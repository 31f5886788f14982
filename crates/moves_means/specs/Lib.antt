-- The guards of the published model, and the statements, in reading order.
pub mod Guards
pub mod SingleMoves
pub mod ByChains
pub mod OneRelay
pub mod AsTold
