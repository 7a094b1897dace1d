pub mod Executions
pub mod Configurations
pub mod Ended
