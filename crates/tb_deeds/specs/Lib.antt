pub mod Deeds
pub mod Kinds
pub mod Laws
