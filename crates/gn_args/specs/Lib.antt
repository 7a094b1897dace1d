pub mod BuiltIn
pub mod Arguments
