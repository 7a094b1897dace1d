pub mod Imported
pub mod ImportedCode
pub mod TakenOut
