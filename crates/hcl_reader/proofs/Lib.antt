pub mod AfterLast
pub mod Places
pub mod Turns
pub mod Separators
