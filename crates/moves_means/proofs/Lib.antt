-- The theorems of specs/, each in a file of its statement's name, after the laws that it goes by.
pub mod CurrentLaws
pub mod TakenLaws
pub mod ComesLaws
pub mod SingleMoves
pub mod ByChains
pub mod OneRelay
pub mod AsTold
