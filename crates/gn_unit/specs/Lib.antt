pub mod Ends
pub mod Begun
pub mod Found
pub mod Configuration
