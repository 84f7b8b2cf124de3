pub mod SameTokens
pub mod Renumbering
pub mod OneMember
