pub mod Definitions
pub mod Selected
pub mod Resolved
pub mod Openings
