pub mod Reading
pub mod ByKind
pub mod Turns
pub mod Pump
