pub mod Resolved
pub mod Table
pub mod Steps
pub mod Whole
pub mod Laws
pub mod Putting
pub mod Captures
