pub mod Least
pub mod Texts
pub mod Used
pub mod Laws
