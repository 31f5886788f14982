-- Laws of chains, for the crates that follow them; then the theorems that the list of chains holds exactly the chains,
-- in dictionary order.
pub mod StepLaws
pub mod ShowsLaws
pub mod ChainMaps
pub mod OrderLaws
pub mod TriesLaws
pub mod ChainsCorrect
pub mod ChainsComplete
pub mod ChainsSorted
