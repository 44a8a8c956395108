pub mod Failing
pub mod Orders
pub mod Page
pub mod Running
pub mod Serve
