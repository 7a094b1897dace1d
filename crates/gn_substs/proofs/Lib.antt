pub mod PieceLemmas
pub mod ReadLemmas
pub mod LawLemmas
pub mod JoinLemmas
pub mod VariableLemmas
