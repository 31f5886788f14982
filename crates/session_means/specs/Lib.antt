-- The statements, in reading order.
pub mod HandedLines
pub mod FilledBuffers
pub mod EventRefusals
pub mod LinesDrawn
pub mod SessionsKept
pub mod AnyAllowance
pub mod UnspentSessions
