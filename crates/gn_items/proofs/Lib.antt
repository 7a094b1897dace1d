pub mod LabelLemmas
mod NameLemmas
