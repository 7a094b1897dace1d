pub mod Whole
pub mod Executions
pub mod Generated
pub mod Judging
pub mod Links
pub mod Limits
