pub mod Files
pub mod Serves
pub mod Joining
pub mod Laws
