pub mod AnswerLemmas
pub mod FirstLemmas
pub mod JoinedReads
pub mod KnownPaths
pub mod PartReads
pub mod RunLemmas
pub mod StageLemmas
pub mod NinjaLemmas
