pub mod Headline
pub mod ImportAgain
pub mod Refusals
pub mod Files
