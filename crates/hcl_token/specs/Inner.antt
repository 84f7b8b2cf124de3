-- Definitions that serve proofs alone: what inner functions are proved equal to, and what is kept
-- between calls.
-- The clauses of public calls are said without them.
pub mod LineColumn
pub mod AsciiText
pub mod SameTokens
pub mod TokenWord
