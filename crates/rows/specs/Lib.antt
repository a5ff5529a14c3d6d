pub mod Parts
pub mod Outcomes
pub mod Combining
pub mod Chosen
