pub mod Marks
pub mod Escapes
pub mod Values
pub mod Words
