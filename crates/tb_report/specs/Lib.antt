pub mod Lists
pub mod Marked
pub mod Rank
pub mod Row
pub mod Showing
pub mod Urgencies
