-- Rows that are found by their names.
use Rattle.std.specs.Prelude.{ℕ, List, [], ◌∷◌, if◌then◌else◌}
use Rattle.std.specs.Borrow.{Bor}
use Rattle.std.specs.Str.{bytes_eq}

-- what stands at the first of these rows that has the name, or the other value where none has it
abbrev pub first_named : {T : Type 0} → List (Bor (List ℕ) × T) → List ℕ → T → T
first_named [] name otherwise = otherwise
first_named (row ∷ rows) name otherwise = if bytes_eq name row.0.now then row.1 else first_named rows name otherwise
