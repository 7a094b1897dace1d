pub mod Named
pub mod View
pub mod Errors
pub mod Undoing
pub mod Kept
pub mod NameSets
