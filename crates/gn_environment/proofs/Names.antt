-- Names: what their order answers, and where one stands among others.
use Rattle.std.proofs.Common.{◌≡◌, ℕ, true, List, Some, slice_get, refl}
use Rattle.std.specs.List.{list_any}
use Rattle.std.specs.Str.{bytes_eq}
use Rattle.std.proofs.lemmas.Map.Keys.{any_passes_from_place}
use Rattle.std.proofs.lemmas.Slice.Eq.{bytes_eq-Decides}
pub use Rattle.gn_basics.proofs.Orders.{order, tied, by_order, by_answer}

-- a name that stands at a number is among the names
pub not_lacking : (names : List (List ℕ)) (q : List ℕ) (n : ℕ) → slice_get names n ≡ Some q → list_any (bytes_eq q) names ≡ true
not_lacking names q n h = any_passes_from_place (bytes_eq q) names n q h ((bytes_eq-Decides q q).1 refl)
