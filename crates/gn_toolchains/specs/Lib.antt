pub mod Toolchains
pub mod Frames
pub mod Laws
