pub mod KeyOrder
pub mod Texts
pub mod Pushes
