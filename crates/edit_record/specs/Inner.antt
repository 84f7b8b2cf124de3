-- For proofs alone: how the code reads a text, as functions on lists. No public clause names
-- anything of this folder.
pub mod Allocating
pub mod ParseResults
pub mod Faults
pub mod OldHead
pub mod Digits
pub mod EditLengths
pub mod EditSums
pub mod ListCapacity
pub mod PartText
pub mod KnownText
