pub mod Along
pub mod Reached
pub mod Inherited
pub mod Laws
