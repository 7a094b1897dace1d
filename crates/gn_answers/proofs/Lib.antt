mod Contents
mod NeedsLemmas
