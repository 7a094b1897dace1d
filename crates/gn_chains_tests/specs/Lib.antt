pub mod Trees
pub mod Found
pub mod Makers
