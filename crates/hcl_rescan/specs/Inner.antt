pub mod WholeLines
pub mod MovedSpans
pub mod Pieces
pub mod Sequences
