pub mod Records
pub mod Answers
pub mod Entries
pub mod Payloads
pub mod Calls
