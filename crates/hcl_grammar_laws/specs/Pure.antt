-- For proofs: what the code of a parser relies on.
pub mod ParserResults
