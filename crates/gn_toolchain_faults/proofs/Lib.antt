pub mod Using
pub mod Contained
pub mod First
pub mod Uses
pub mod FirstTold
