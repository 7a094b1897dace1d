pub mod Rows
pub mod Functions
pub mod Rules
pub mod Laws
