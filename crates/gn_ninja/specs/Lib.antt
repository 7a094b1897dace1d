pub mod Format
pub mod Readings
pub mod Code
pub mod Phony
pub mod Root
pub mod Claims
pub mod Taken
