pub mod Doing
pub mod Halves
pub mod Inputs
pub mod Items
pub mod NewKeys
pub mod Runs
pub mod Standing
pub mod Unasked
