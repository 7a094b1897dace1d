-- What contracts say of a table of names, which they see as the list of its names.
use Rattle.std.specs.Prelude.{ℕ, ◌≡◌, ◌<◌, List, [], ◌∷◌, ◌++◌, if◌then◌else◌, length, slice_get}
use Rattle.std.specs.List.{list_any, position_or_len}
use Rattle.std.specs.Str.{bytes_eq}

-- no name stands at two places, so a name has one number and a number one name
abbrev pub AllDifferent : List (List ℕ) → Type 0
AllDifferent names =
    (i j : ℕ) → i < length names → slice_get names i ≡ slice_get names j → i ≡ j

-- the names with this one among them: they stay where it is there, and else it is last
abbrev pub with_name : List (List ℕ) → List ℕ → List (List ℕ)
with_name names name = if list_any (bytes_eq name) names then names else names ++ name ∷ []

-- the number of a name, which is that of its place; that of a new name is the count of names
abbrev pub number_of : List (List ℕ) → List ℕ → ℕ
number_of names name = position_or_len (bytes_eq name) names
