pub mod OneTree
pub mod Nesting
pub mod Comments
pub mod Glue
pub mod OneMember
pub mod Members
pub mod Pure
