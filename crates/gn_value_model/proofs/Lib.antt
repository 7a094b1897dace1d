pub mod Items
pub mod Equality
pub mod Within
