pub mod Causes
pub mod Opening
pub mod Stores
pub mod Inner
