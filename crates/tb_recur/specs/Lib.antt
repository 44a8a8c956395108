pub mod Weekdays
pub mod Months
pub mod Dues
pub mod Wanting
pub mod AtOnce
pub mod Instances
