pub mod Tables
pub mod Changes
pub mod Gathered
pub mod LaidOver
pub mod ManyReads
pub mod NameSets
pub mod Undone
pub mod Restored
