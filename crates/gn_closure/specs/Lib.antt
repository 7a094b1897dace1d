pub mod Closure
pub mod Laws
pub mod Reach
pub mod Ground
pub mod Computed
pub mod Least
