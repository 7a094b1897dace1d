pub mod Files
pub mod Built
