pub mod Geometries
pub mod Records
pub mod Streams
pub mod Examples
