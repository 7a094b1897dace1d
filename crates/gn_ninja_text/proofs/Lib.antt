pub mod MarkLemmas
pub mod ValueLemmas
