pub mod ReadingLemmas
pub mod EachLemmas
pub mod AnswerLemmas
pub mod TemplateLemmas
pub mod LawLemmas
pub mod RebaseLemmas
