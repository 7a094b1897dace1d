pub mod KindLemmas
pub mod NameLemmas
