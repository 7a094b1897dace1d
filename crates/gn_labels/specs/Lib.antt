pub mod Labels
pub mod Names
pub mod Reading
pub mod Patterns
pub mod Laws
pub mod Toolchains
pub mod Keys
