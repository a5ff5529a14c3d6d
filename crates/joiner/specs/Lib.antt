pub mod Machine
pub mod Answers
pub mod Parts
pub mod Runs
