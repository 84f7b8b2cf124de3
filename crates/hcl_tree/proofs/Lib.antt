pub mod CheckResults
pub mod FaultLemmas
pub mod Passing
