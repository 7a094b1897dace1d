pub mod Shortest
pub mod Search
pub mod Settled
