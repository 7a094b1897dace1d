pub mod NoDependency
pub mod MadeAlone
pub mod Expanded
pub mod Lists
mod Loops
