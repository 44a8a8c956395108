pub mod Histories
pub mod Named
pub mod People
pub mod Replies
pub mod Roles
pub mod Migrating
pub mod Reopening
pub mod Stored
