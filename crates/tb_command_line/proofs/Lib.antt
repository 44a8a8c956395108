pub mod Apart
pub mod Colons
pub mod Entering
pub mod Leaving
pub mod Modes
pub mod Options
pub mod Positionals
pub mod Requests
