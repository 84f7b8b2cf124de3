-- Definitions for proofs.
pub mod CodeViews
pub mod LineSpans
pub mod SpacingFlags
pub mod Stages
