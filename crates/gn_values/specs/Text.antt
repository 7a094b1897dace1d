-- The text of a value.
use Rattle.std.specs.Prelude.{ℕ, Bool, true, false, List, [], ◌++◌, codes}
use Rattle.std.specs.Fmt.{signed_decimal}
use Rattle.gn_text.specs.Quoted.{quoted}
use Rattle.gn_values.specs.Val.{Val, vbool, vint, vstr, vlist, vscope, Vals, no_vals, val_then, Binds, no_binds, bind_then}

-- `true` or `false`
abbrev pub bool_text : Bool → List ℕ
bool_text true = codes "true"
bool_text false = codes "false"

-- a value inside a list or a scope: a string is quoted
unfoldable mutual
  pub inner_text : Val → List ℕ
  inner_text (vbool b) = bool_text b
  inner_text (vint n) = signed_decimal n
  inner_text (vstr t) = quoted t
  inner_text (vlist vs) = codes "[" ++ items_text vs ++ codes "]"
  inner_text (vscope bs) = codes "{\n" ++ entries_text bs ++ codes "}"

  -- the items with `, ` between them
  pub items_text : Vals → List ℕ
  items_text no_vals = []
  items_text (val_then v vs) = inner_text v ++ further_text vs

  pub further_text : Vals → List ℕ
  further_text no_vals = []
  further_text (val_then v vs) = codes ", " ++ inner_text v ++ further_text vs

  -- a line for each entry: two blanks, the name, ` = `, the value
  pub entries_text : Binds → List ℕ
  entries_text no_binds = []
  entries_text (bind_then n v bs) = (codes "  " ++ n ++ codes " = " ++ inner_text v ++ codes "\n") ++ entries_text bs

-- a value by itself: a string is quoted where that is asked
unfoldable pub text_of : Bool → Val → List ℕ
text_of false (vstr t) = t
text_of quoted v = inner_text v
