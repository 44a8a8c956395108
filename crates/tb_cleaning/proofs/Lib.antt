pub mod Graphs
pub mod Readable
pub mod Whole
