-- Words for laws of the tools that are missing.
use Rattle.std.specs.Prelude.{◌≡◌, ℕ, Bool, true, List, [], ◌∷◌, Some, ◌&&◌, slice_get}
use Rattle.std.specs.List.{list_all}
use Rattle.std.specs.Ordering.{nat_cmp, is_lt}
use Rattle.std.specs.Cmp.Lexicographic.{slice_cmp}
use Rattle.gn_rows.specs.declared.kinds.ToolName.{ToolName}
use Rattle.gn_rows.specs.Names.{tool_name}
use Rattle.gn_items.specs.declared.item.Item.{Item}
use Rattle.gn_items.specs.declared.tool.Tool.{Tool}
use Rattle.gn_needed_tools.specs.Needed.{needs, missing_tools}

-- the name is that of a tool which the item needs
abbrev pub IsNeeded : Item → List ℕ → Type 0
IsNeeded item name = (tool : ToolName) × (name ≡ tool_name tool) × (needs item tool ≡ true)

-- the name stands among those that are told
abbrev pub IsTold : Item → List Tool → List ℕ → Type 0
IsTold item tools name = (k : ℕ) × (slice_get (missing_tools item tools) k ≡ Some name)

-- whether one name stands before another in the order of their bytes
abbrev pub is_less : List ℕ → List ℕ → Bool
is_less name other = is_lt (slice_cmp nat_cmp name other)

-- whether each name stands before all that are behind it
abbrev pub ascends : List (List ℕ) → Bool
ascends [] = true
ascends (name ∷ names) = list_all (is_less name) names && ascends names
