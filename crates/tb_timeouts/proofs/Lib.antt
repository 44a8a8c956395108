pub mod EarliestBelow
