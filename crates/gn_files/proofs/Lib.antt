pub mod Agreeing
pub mod Crossing
pub mod Dones
pub mod Knowing
pub mod Made
