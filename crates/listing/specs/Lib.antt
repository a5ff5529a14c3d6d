pub mod Text
pub mod Lines
pub mod Puts
pub mod Joining
pub mod Listing
pub mod Steps
pub mod Answers
