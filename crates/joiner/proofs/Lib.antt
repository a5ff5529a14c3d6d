pub mod Fronts
pub mod Ends
pub mod Begins
pub mod Turns
pub mod Prints
pub mod Closes
pub mod OneResult
