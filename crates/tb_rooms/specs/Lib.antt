pub mod Bucket
pub mod Claims
pub mod Holding
pub mod Laws
pub mod Ledger
pub mod Rates
pub mod Yielding
