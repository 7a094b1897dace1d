pub mod Files
pub mod Known
pub mod Making
pub mod Gathered
