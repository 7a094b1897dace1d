mod BuiltLemmas
mod FileLemmas
