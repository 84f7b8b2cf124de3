pub mod Adoption
pub mod Disk
pub mod Laws
pub mod OtherPrograms
pub mod Runs
pub mod Stable
pub mod Steps
