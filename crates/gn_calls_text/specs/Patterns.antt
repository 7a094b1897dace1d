-- The patterns of the calls that filter, and which texts match them.
use Rattle.std.specs.Prelude.{ℕ, Bool, true, false, ◌==◌, ◌||◌, ◌&&◌, not, if◌then◌else◌, List, [], ◌∷◌}
use Rattle.std.specs.List.{list_any}
use Rattle.gn_calls_text.specs.declared.patterns.Part.{Part}
use Rattle.gn_calls_text.specs.declared.patterns.Part.TheVariants.{Any, Boundary, Byte}

-- the part that a byte stands for by itself: `*` is special, and every other byte, a backslash too, stands for itself
abbrev pub part_of : ℕ → Part
part_of b = if b == 42 then Any else Byte b

-- the parts of a pattern: `\b` is one, and so is every other byte
abbrev pub parts_of : List ℕ → List Part
parts_of [] = []
parts_of (b ∷ []) = part_of b ∷ []
parts_of (b ∷ c ∷ more) = if b == 92 && c == 98 then Boundary ∷ parts_of more else (part_of b ∷ parts_of (c ∷ more))

-- whether the text, or what is left of it behind some of its first bytes, passes the test, which is told whether the
-- text is at the beginning of the string
abbrev pub some_rest : (Bool → List ℕ → Bool) → Bool → List ℕ → Bool
some_rest test first [] = test first []
some_rest test first (b ∷ more) = test first (b ∷ more) || some_rest test false more

-- whether the text, which may be at the beginning of the string and goes to its end, matches the parts. `*` stands for
-- any bytes, none too. `\b` stands for a slash, or for nothing at the beginning or the end of the string. Nothing but
-- the empty text matches no parts
abbrev pub matches_parts : List Part → Bool → List ℕ → Bool
matches_parts [] first [] = true
matches_parts [] first (b ∷ more) = false
matches_parts (Any ∷ parts) first text = some_rest (matches_parts parts) first text
matches_parts (Byte b ∷ parts) first [] = false
matches_parts (Byte b ∷ parts) first (c ∷ more) = c == b && matches_parts parts false more
matches_parts (Boundary ∷ parts) first [] = matches_parts parts first []
matches_parts (Boundary ∷ parts) first (c ∷ more) =
    (first && matches_parts parts first (c ∷ more)) || (c == 47 && matches_parts parts false more)

-- whether the whole text matches the pattern
unfoldable pub matches : List ℕ → List ℕ → Bool
matches pattern text = matches_parts (parts_of pattern) true text

-- whether the text matches one of the patterns
abbrev pub matches_some : List (List ℕ) → List ℕ → Bool
matches_some patterns text = list_any (λ p. matches p text) patterns

-- whether the text matches none of them
abbrev pub matches_none : List (List ℕ) → List ℕ → Bool
matches_none patterns text = not (matches_some patterns text)
