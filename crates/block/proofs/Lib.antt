pub mod LastMarker
pub mod Filling
pub mod Reading
pub mod Bounds
pub mod Chosen
pub mod RowBytes
pub mod Answered
