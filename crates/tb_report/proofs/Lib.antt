pub mod Sorting
pub mod RankOrder
pub mod Columns
pub mod Listed
pub mod Woken
pub mod Controls
