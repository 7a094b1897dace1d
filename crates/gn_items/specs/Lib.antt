pub mod Effects
pub mod Codes
pub mod Labels
pub mod Names
pub mod Questions
pub mod Tools
