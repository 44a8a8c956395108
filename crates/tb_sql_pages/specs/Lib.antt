pub mod Entries
pub mod Last
pub mod Read
