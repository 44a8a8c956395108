pub mod Deciding
pub mod Stage
