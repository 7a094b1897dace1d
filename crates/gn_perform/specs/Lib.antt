pub mod Performing
pub mod Kept
pub mod Evaluating
