pub mod Faults
pub mod Parses
