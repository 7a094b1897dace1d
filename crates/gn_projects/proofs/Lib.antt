pub mod Files
pub mod Layered
pub mod Whole
pub mod Links
pub mod Faults
pub mod Quiet
