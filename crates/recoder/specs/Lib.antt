pub mod Made
pub mod Entries
