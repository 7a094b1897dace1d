pub mod Rules
pub mod Naming
pub mod Least
pub mod Outputs
