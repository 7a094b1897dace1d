pub mod Bytes
pub mod Number
pub mod Text
pub mod Token
pub mod Front
pub mod Mark
pub mod Next
pub mod Stream
