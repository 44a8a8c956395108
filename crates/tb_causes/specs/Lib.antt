pub mod BadText
pub mod Cause
pub mod FileCause
pub mod Shell
pub mod Told
pub mod Unanswered
pub mod WrongWord
