pub mod Ways
pub mod Computed
pub mod Laws
