pub mod MissingLemmas
pub mod LawLemmas
