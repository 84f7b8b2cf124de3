mod ApartLemmas
mod InsertionLemmas
pub mod CommentLemmas
pub mod NonemptyLemmas
pub mod FoundLemmas
pub mod PrevTokenLemmas
pub mod FoundByLemmas
pub mod PairLemmas
pub mod PartLemmas
pub mod SettledLemmas
pub mod StepLemmas
pub mod SelectionLemmas
pub mod ComparisonLemmas
