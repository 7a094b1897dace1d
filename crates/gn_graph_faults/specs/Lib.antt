pub mod Order
pub mod Faults
pub mod Told
pub mod Least
pub mod Laws
