pub mod WeekdayLemmas
pub mod MonthLemmas
pub mod DueLemmas
pub mod StepLemmas
pub mod Needs
pub mod AtOnce
