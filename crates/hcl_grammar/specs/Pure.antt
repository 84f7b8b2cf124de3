-- For proofs: the parser as a function of lists of tokens, to which the code is proved equal.
pub mod Reading
pub mod Steps
pub mod Makers
pub mod Parser
pub mod BodyParser
pub mod NodeMakers
