-- The theorems of specs/, each in a file of its statement's name, after the laws that it goes by.
pub mod FromLaws
pub mod StillLaws
pub mod BeginningLaws
pub mod HandedLines
pub mod FilledBuffers
pub mod EventFits
pub mod LinesWalk
pub mod EventRefusals
pub mod LinesDrawn
pub mod SessionsKept
pub mod AnyAllowance
pub mod UnspentSessions
-- For a program that prints the texts that it is handed: what its writer holds then.
pub mod Printed
