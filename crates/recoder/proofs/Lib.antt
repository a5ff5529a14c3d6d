pub mod State
pub mod Outcomes
pub mod OneResult
pub mod Truthful
