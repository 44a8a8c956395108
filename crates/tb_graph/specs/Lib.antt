pub mod Walk
pub mod Leads
pub mod Marks
pub mod Search
pub mod Taking
pub mod Blocked
