pub mod Sizes
pub mod Refusal
pub mod Counts
pub mod Padding
pub mod Reading
