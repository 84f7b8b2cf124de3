pub mod Accepting
pub mod Building
pub mod Choosing
pub mod Commands
pub mod Naming
pub mod Reading
pub mod Values
