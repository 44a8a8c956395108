pub mod Again
pub mod Entering
pub mod Good
pub mod Import
pub mod Known
pub mod News
pub mod Refusal
pub mod Sets
