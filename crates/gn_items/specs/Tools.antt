-- Tools by their names.
use Rattle.std.specs.Prelude.{ℕ, Bool, List, [], ◌∷◌, Option, Some, None, is_some, if◌then◌else◌}
use Rattle.std.specs.Str.{bytes_eq}
use Rattle.gn_items.specs.declared.tool.Tool.{Tool}

-- the first of these tools that has the name
abbrev pub tool_at : List ℕ → List Tool → Option Tool
tool_at name [] = None
tool_at name (t ∷ ts) = if bytes_eq t.name name then Some t else tool_at name ts

-- whether one of them has it
abbrev pub has_name : List ℕ → List Tool → Bool
has_name name tools = is_some (tool_at name tools)
