pub mod Rounds
pub mod Causes
pub mod Asked
pub mod Projects
pub mod Laws
