-- Where a byte of a file stands, as line and column.
use Rattle.std.specs.Prelude.{ℕ, ◌+◌, ◌-◌, ◌==◌, ◌^◌, min, not, List, take, reverse, count_by}
use Rattle.std.specs.List.{prefix_len}
use Rattle.gn_tree.specs.declared.position.Position.{Position}

-- a count of 32 bits, which stands still at the end of its type
abbrev pub counted : ℕ → ℕ
counted n = min n (2 ^ 32 - 1)

-- one more than the newlines among these bytes
abbrev pub line_behind : List ℕ → ℕ
line_behind before = count_by (λ b. b == 10) before + 1

-- one more than the bytes since the last newline among these, or since the beginning where there is none
abbrev pub column_behind : List ℕ → ℕ
column_behind before = prefix_len (λ b. not (b == 10)) (reverse before) + 1

-- The position of the byte at an offset: its line is one more than the newlines before it, its column one more than the bytes since the last newline.
abbrev pub position_of : List ℕ → ℕ → Position
position_of bytes offset = record { line = counted (line_behind (take offset bytes)); column = counted (column_behind (take offset bytes)) }

-- the position so many bytes further in the same line
abbrev pub further : ℕ → Position → Position
further n position = record { line = position.line; column = counted (position.column + n) }
