pub mod Collects
pub mod Annotations
pub mod ByteCounts
pub mod NextComment
