pub mod Endings
pub mod Settled
pub mod Texts
pub mod Told
pub mod Wires
