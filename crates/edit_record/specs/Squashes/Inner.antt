-- For proofs alone: the steps of the merge. The definitions to be believed are in the other files
-- of this folder.
pub mod Merge
pub mod MergeState
pub mod MergeResult
