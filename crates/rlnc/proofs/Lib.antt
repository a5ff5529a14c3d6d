pub mod Given
pub mod Numbered
pub mod Records
pub mod Forms
pub mod Streams
pub mod OneResult
pub mod OneNumbered
