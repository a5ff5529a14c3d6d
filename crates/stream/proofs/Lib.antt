pub mod OneResult
pub mod Streams
pub mod Examples
