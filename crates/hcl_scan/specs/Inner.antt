-- Definitions that serve proofs alone: what inner functions are proved equal to, and what is kept
-- between calls.
-- The clauses of public calls are said without them.
pub mod Additions
pub mod Flags
pub mod LexemeStarts
pub mod HeredocToken
pub mod MarkToken
pub mod Markers
pub mod NextToken
pub mod OpeningPlaces
pub mod Openings
pub mod RunLength
pub mod TextAfter
pub mod TokenizedTo
