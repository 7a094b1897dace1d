pub mod InOrder
pub mod Laws
