pub mod Found
pub mod Names
pub mod Directories
pub mod Labels
pub mod Templates
pub mod Each
pub mod Rebase
pub mod Calls
pub mod Views
pub mod Laws
mod Outputs
