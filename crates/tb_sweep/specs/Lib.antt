pub mod AtOnce
pub mod Counts
pub mod Growing
pub mod Kept
pub mod Masks
pub mod Quiet
pub mod Sweeping
