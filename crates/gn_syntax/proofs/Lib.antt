pub mod Positions
pub mod Hands
pub mod Steps
pub mod Trees
pub mod Calls
pub mod Whole
pub mod Literals
pub mod Readings
