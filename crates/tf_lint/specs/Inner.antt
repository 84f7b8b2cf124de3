-- For proofs: the parts of a line, the findings up to a point next to the pure parser, one step of
-- a fix, and what is known from some steps on.
pub mod LeadsTo
pub mod LineParts
pub mod FirstChange
pub mod BodyFindings
pub mod FixState
