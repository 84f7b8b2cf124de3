-- For proofs alone: in which form a finding holds its fix and its message, and that nothing is lost
-- in it. What has to be believed is in the files next to this folder.
pub mod Unpacking
pub mod Packing
pub mod SnakeCaseRest
