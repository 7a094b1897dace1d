pub mod Index
pub mod Graphs
pub mod Laws
pub mod Listed
