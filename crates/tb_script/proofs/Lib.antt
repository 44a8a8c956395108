pub mod Failures
pub mod Feeding
pub mod Joining
pub mod LineLaws
pub mod OneLine
pub mod Readable
pub mod Runs
