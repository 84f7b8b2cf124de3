pub mod Fold
pub mod Anything
pub mod Ends
pub mod Turns
pub mod Chains
pub mod Roots
