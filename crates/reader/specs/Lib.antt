pub mod Reading
pub mod Pump
