pub mod Lists
pub mod FoldLemmas
pub mod FileLemmas
pub mod OnceLemmas
