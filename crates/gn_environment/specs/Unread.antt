-- Names that nothing reads.
use Rattle.std.specs.Prelude.{ℕ, Bool, if◌then◌else◌, List, [], ◌∷◌, Option, Some, None, option_map}
use Rattle.std.specs.Ordering.{nat_cmp, is_lt}
use Rattle.std.specs.Cmp.Lexicographic.{slice_cmp}
use Rattle.gn_tree.specs.declared.position.Position.{Position}
use Rattle.gn_values.specs.Tables.{Table}
use Rattle.gn_environment.specs.Layers.{VariableState, LayerState}

-- the order of names at positions: by line, then by column, then by the bytes of the names
abbrev pub rank : List ℕ × Position → List ℕ
rank a = a.1.line ∷ a.1.column ∷ a.0

-- whether a name at a position stands before another
abbrev pub stands_before : List ℕ × Position → List ℕ × Position → Bool
stands_before a b = is_lt (slice_cmp nat_cmp (rank a) (rank b))

-- of two names at positions the one that stands first
abbrev pub first_of : List ℕ × Position → Option (List ℕ × Position) → Option (List ℕ × Position)
first_of a None = Some a
first_of a (Some b) = if stands_before b a then Some b else Some a

abbrev pub earlier : Option (List ℕ × Position) → Option (List ℕ × Position) → Option (List ℕ × Position)
earlier None other = other
earlier (Some a) other = first_of a other

-- a name where it is unread, with the position of its last assignment
abbrev pub unread_at : List ℕ → Option Position → Option (List ℕ × Position)
unread_at name unread = option_map (λ position. (name, position)) unread

-- the unread name whose last assignment stands first
abbrev pub first_unread_of : Table VariableState → Option (List ℕ × Position)
first_unread_of [] = None
first_unread_of (v ∷ vs) = earlier (unread_at v.0 v.1.unread) (first_unread_of vs)

-- what the end of a layer reports, where the layer is checked
unfoldable pub reported : LayerState → Option (List ℕ × Position)
reported layer = if layer.checked then first_unread_of layer.variables else None
