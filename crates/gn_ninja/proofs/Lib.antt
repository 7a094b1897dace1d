pub mod Groups
pub mod Readback
pub mod LastClaims
pub mod NamesOnce
pub mod NamesFree
pub mod Twice
pub mod Claimed
