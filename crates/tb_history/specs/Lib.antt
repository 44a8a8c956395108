pub mod Contents
pub mod History
pub mod Laws
pub mod Pages
pub mod Texts
