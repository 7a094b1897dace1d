pub mod Keys
pub mod Worlds
pub mod Machine
pub mod Layered
pub mod Statements
pub mod Counted
