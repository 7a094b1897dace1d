pub mod MarksLemmas
pub mod NamesLemmas
