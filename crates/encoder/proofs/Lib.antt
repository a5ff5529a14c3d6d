pub mod State
pub mod Outcomes
pub mod Padded
pub mod Whole
pub mod OneResult
pub mod Truthful
