pub mod UseLemmas
pub mod WriteLemmas
pub mod Sets
