pub mod DayTexts
pub mod LetterWords
pub mod FirstWords
pub mod Spelling
pub mod Readings
pub mod Signs
pub mod TaskLines
pub mod FileLines
