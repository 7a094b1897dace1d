pub mod Uses
pub mod Least
pub mod Arguments
pub mod Defaults
pub mod Writes
pub mod Imports
pub mod Faults
