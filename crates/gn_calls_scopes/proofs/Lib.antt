pub mod Gathered
pub mod Defined
