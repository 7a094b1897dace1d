pub mod Least
pub mod Used
pub mod Pools
pub mod Faults
pub mod Laws
