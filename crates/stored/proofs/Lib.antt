pub mod Numbers
pub mod Forms
pub mod Entries
pub mod OneResult
pub mod Outcomes
pub mod RoundTrip
pub mod Alike
