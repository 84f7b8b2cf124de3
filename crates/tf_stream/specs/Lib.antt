pub mod Told
pub mod Streams
