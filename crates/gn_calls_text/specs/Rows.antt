-- How a text is matched from its end.
use Rattle.std.specs.Prelude.{◌≡◌, ℕ, ◌+◌, ◌<◌, ◌≤◌, ◌==◌, ◌||◌, ◌&&◌, Bool, false, List, [], ◌∷◌, length, drop, map, slice_index_or, Option, Some, None}
use Rattle.std.specs.declared.alloc.Global.{Global}
use Rattle.std.specs.declared.vec.Vec.{Vec}
use Rattle.gn_calls_text.specs.declared.patterns.Part.{Part}
use Rattle.gn_calls_text.specs.declared.patterns.Part.TheVariants.{Any, Boundary, Byte}
use Rattle.gn_calls_text.specs.Patterns.{parts_of, matches_parts}

-- the first part of a pattern, if it has one, and what is left of it
abbrev pub BeginsWith : Option (Part × List ℕ) → List ℕ → Type 0
BeginsWith None pattern = parts_of pattern ≡ []
BeginsWith (Some p) pattern = (parts_of pattern ≡ p.0 ∷ parts_of p.1) × (length p.1 < length pattern)

abbrev pub part_lists : List (Vec Part Global) → List (List Part)
part_lists lists = map (λ v. v.items) lists

-- whether the end of a string matches a part and those behind it, by whether it matches those behind it
abbrev pub end_cell : Part → Bool → Bool
end_cell Any behind = behind
end_cell Boundary behind = behind
end_cell (Byte b) behind = false

-- whether a text matches a part and those behind it. Known are the text's first byte, whether it is the first one of the
-- string, whether the text without it matches the same parts and whether it matches those behind the part, and whether
-- the text matches those behind the part
abbrev pub cell : Part → Bool → ℕ → Bool → Bool → Bool → Bool
cell Any first byte here behind next = next || here
cell Boundary first byte here behind next = (first && next) || (byte == 47 && behind)
cell (Byte b) first byte here behind next = byte == b && behind

-- the row says of each place in the pattern whether the text matches the parts from there on
pub record IsRow (parts : List Part) (first : Bool) (text : List ℕ) (row : List Bool) : Type 0 where
  pub long : length row ≡ length parts + 1
  pub at : (k : ℕ) → k ≤ length parts → slice_index_or row k false ≡ matches_parts (drop k parts) first text
