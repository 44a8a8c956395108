pub mod Help
pub mod Words
pub mod Reading
pub mod Order
pub mod Outcome
pub mod Extra
pub mod Sending
