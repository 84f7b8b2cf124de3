-- For proofs: the summaries of nodes, and what makes them.
pub mod Summary
pub mod SummaryMakers
