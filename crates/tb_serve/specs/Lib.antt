pub mod Telling
pub mod Serving
pub mod Turns
pub mod Server
pub mod Exchanging
pub mod Following
pub mod Laws
