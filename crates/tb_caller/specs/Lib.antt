pub mod Asking
pub mod Ending
pub mod Faults
pub mod Mine
pub mod Sent
