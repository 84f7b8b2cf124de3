pub mod Explanations
pub mod Heredocs
pub mod Lines
pub mod Openings
pub mod Said
pub mod ScanExplanations
pub mod Sequences
pub mod Inner
