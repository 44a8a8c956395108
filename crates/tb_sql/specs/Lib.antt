pub mod Changes
pub mod FirstVersion
pub mod Lend
pub mod Migrating
pub mod Opening
pub mod RolesOf
pub mod Writing
