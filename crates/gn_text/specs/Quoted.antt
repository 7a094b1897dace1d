-- A text as it stands between double quotes.
use Rattle.std.specs.Prelude.{ℕ, Bool, List, [], ◌∷◌, ◌++◌, ◌==◌, ◌||◌, if◌then◌else◌}
use Rattle.std.specs.List.{flat_map}

-- the bytes that stand behind a backslash: `"`, `$` and `\`
abbrev pub needs_backslash : ℕ → Bool
needs_backslash b = b == 34 || (b == 36 || b == 92)

-- a byte as it is written between quotes
abbrev pub escaped : ℕ → List ℕ
escaped b = if needs_backslash b then 92 ∷ b ∷ [] else b ∷ []

-- the text between double quotes
abbrev pub quoted : List ℕ → List ℕ
quoted value = 34 ∷ (flat_map escaped value ++ 34 ∷ [])
