pub mod Framing
pub mod Looking
