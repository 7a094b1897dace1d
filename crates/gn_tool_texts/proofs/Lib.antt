pub mod LeastLemmas
pub mod LeastLaw
pub mod EmptyLists
pub mod WholeLaw
pub mod LeastTold
