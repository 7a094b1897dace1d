pub mod Lines
pub mod Kinds
pub mod Names
pub mod Commands
pub mod Outputs
pub mod Sources
pub mod TargetNames
pub mod Rest
