pub mod Clock
pub mod Fault
pub mod Listening
