pub mod Matrix
pub mod Steps
pub mod Outcomes
