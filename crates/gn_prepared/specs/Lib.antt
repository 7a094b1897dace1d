pub mod Contents
pub mod Copies
pub mod Captures
pub mod Prepared
