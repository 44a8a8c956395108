pub mod Admitting
pub mod EntryList
pub mod Histories
pub mod ListKeep
pub mod Resuming
pub mod Sessions
pub mod Viewing
