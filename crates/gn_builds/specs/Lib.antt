pub mod Working
pub mod Laws
pub mod Stacks
pub mod Driving
pub mod Rest
pub mod Causes
pub mod Own
