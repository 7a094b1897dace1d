-- Positions, counted a byte at a time.
use Rattle.std.specs.Prelude.{ℕ, ◌+◌, ◌==◌, if◌then◌else◌, List, [], ◌∷◌}
use Rattle.gn_tree.specs.declared.position.Position.{Position}
use Rattle.gn_grammar.specs.Position.{counted, line_behind, column_behind}

-- the position behind this byte, which stands at the position
abbrev pub behind_byte : Position → ℕ → Position
behind_byte position b =
    if b == 10 then (record { line = counted (position.line + 1); column = 1 }) else (record { line = position.line; column = counted (position.column + 1) })

-- the position behind these bytes, of which the first stands at the position
abbrev pub behind_bytes : Position → List ℕ → Position
behind_bytes position [] = position
behind_bytes position (b ∷ bs) = behind_bytes (behind_byte position b) bs

-- the position behind the bytes with which a file begins
abbrev pub behind_first : List ℕ → Position
behind_first before = record { line = counted (line_behind before); column = counted (column_behind before) }
