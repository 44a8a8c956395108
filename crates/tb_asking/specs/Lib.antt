pub mod BodyFault
pub mod Bodies
pub mod Rejection
pub mod Command
pub mod Asking
pub mod Laws
