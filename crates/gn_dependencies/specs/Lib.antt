pub mod Lists
pub mod Shape
pub mod Configurations
pub mod Cycles
pub mod Order
pub mod Walks
pub mod Inherited
pub mod Laws
