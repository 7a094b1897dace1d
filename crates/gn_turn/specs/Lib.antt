pub mod History
pub mod Views
pub mod Invariant
pub mod Steps
pub mod Tokens
pub mod Turns
