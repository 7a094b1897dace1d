pub mod NameLemmas
pub mod OrderLemmas
pub mod ReadingLemmas
pub mod LawLemmas
pub mod ToolchainLemmas
