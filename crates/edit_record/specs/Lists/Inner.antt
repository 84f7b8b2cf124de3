-- For proofs alone: functions that the code is proved equal to, and proofs of what the trait's laws
-- say. The definitions to be believed are in the other files of this folder.
pub mod Storage
pub mod Walks
pub mod WalkExact
pub mod Exact
pub mod SequenceExact
pub mod JournalExact
pub mod EqualityExact
