pub mod Seats
pub mod Waiting
