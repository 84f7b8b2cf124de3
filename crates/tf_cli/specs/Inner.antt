pub mod Advice
pub mod ClapValues
