pub mod Inner
pub mod CleanMember
