pub mod HeredocLemmas
pub mod LineLemmas
pub mod OpeningsLemmas
pub mod DollarLemmas
pub mod SaidLemmas
pub mod SequenceLemmas
pub mod WithoutLemmas
