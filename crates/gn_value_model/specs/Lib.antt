pub mod Val
pub mod Limits
pub mod Equal
