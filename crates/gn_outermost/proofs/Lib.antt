pub mod WrittenLemmas
pub mod PlainImports
pub mod RestLemmas
