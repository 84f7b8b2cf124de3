-- For proofs.
pub mod Saving
pub mod Faults
pub mod Changes
