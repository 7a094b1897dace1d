-- The numbers of a list, and the place of each.
use Rattle.std.specs.Prelude.{◌≡◌, ℕ, List, Some, slice_get}

-- for each number of the list its place is noted; for other numbers any place may be
abbrev pub ArePlaces : List ℕ → List ℕ → Type 0
ArePlaces list places = (i p : ℕ) → slice_get list i ≡ Some p → slice_get places p ≡ Some i
