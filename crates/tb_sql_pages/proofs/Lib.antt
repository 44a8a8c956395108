pub mod RangeTests
pub mod Turned
pub mod Limits
pub mod HistoryRows
pub mod Numbered
