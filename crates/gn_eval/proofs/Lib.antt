pub mod CallParts
pub mod Configurations
pub mod Joined
pub mod Passed
pub mod ReadValues
