pub mod Forwarded
pub mod Merging
pub mod InScope
pub mod Searched
