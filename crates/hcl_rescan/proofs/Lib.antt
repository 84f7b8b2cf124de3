pub mod DepthLemmas
pub mod LineLemmas
pub mod MovedLemmas
pub mod SequenceLemmas
pub mod TakenLemmas
