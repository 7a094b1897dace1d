pub mod Behind
pub mod Indexing
pub mod Places
pub mod Told
