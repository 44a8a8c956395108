pub mod Bringing
pub mod Handed
pub mod Seeing
pub mod Sessions
mod LeadsOn
