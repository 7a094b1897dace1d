-- The set of the paths that are known.
use Rattle.std.specs.Prelude.{ℕ, ◌≡◌, List}
use Rattle.std.specs.List.{list_any}
use Rattle.std.specs.Str.{bytes_eq}
use Rattle.std.specs.Ordering.{nat_cmp}
use Rattle.std.specs.Cmp.Lexicographic.{slice_cmp}
use Rattle.std.specs.BTreeSet.{BTreeSet, contains}

-- a path is in the set exactly where it is among the paths
abbrev pub HasPaths : BTreeSet (List ℕ) → List (List ℕ) → Type 0
HasPaths known paths = (path : List ℕ) → contains (slice_cmp nat_cmp) known path ≡ list_any (bytes_eq path) paths
