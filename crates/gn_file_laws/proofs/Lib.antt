pub mod Once
pub mod Names
pub mod Printed
pub mod LeftSides
pub mod Faultless
pub mod MadeOnce
