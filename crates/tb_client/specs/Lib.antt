pub mod Answer
pub mod Asking
pub mod Line
pub mod OwnKey
pub mod Request
pub mod Places
