pub mod Marks
pub mod Names
pub mod Kept
pub mod Quoted
