pub mod Walking
pub mod Numbers
pub mod Counts
pub mod Candidates
pub mod Walked
pub mod Reached
