pub mod Contents
pub mod KindNumbers
pub mod Members
pub mod Numbering
pub mod Pages
