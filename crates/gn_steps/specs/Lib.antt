pub mod Ends
pub mod Evaluated
