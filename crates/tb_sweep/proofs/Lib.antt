pub mod Adding
pub mod AtOnce
pub mod Counting
pub mod Extending
pub mod Keeping
pub mod Noting
pub mod QuietBoards
pub mod Settled
