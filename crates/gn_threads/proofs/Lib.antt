pub mod Captured
pub mod Shown
