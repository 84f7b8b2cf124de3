pub mod Arguments
pub mod Choices
pub mod Options
pub mod Parsing
pub mod Reading
pub mod Tasks
pub mod Inner
