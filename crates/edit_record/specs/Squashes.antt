pub mod Groups
pub mod Squash
pub mod SquashLists
pub mod Inner
