pub mod Reading
pub mod Counting
pub mod Parsing
pub mod Literals
