-- How large values may be.
use Rattle.std.specs.Prelude.{ℕ, ◌≤◌, Bool, ◌&&◌, nat_le, List, length}
use Rattle.gn_value_model.specs.Val.{Val, list_depth, scope_depth, IsSortedByName}

-- a value nests at most this deep
abbrev pub max_depth : ℕ
max_depth = 200

-- a list has at most this many items
abbrev pub max_items : ℕ
max_items = 1048576

-- a string has at most this many bytes, and so has a file
abbrev pub max_bytes : ℕ
max_bytes = 16777216

-- whether these bytes may be a string
abbrev pub text_fits : List ℕ → Bool
text_fits text = nat_le (length text) max_bytes

-- whether these values may be the items of a list
abbrev pub list_fits : List Val → Bool
list_fits vs = nat_le (list_depth vs) max_depth && nat_le (length vs) max_items

-- whether these entries may be those of a scope
abbrev pub scope_fits : List (List ℕ × Val) → Bool
scope_fits bs = nat_le (scope_depth bs) max_depth

-- what is so of every list
pub record IsList (vs : List Val) : Type 0 where
  pub shallow : list_depth vs ≤ max_depth
  pub short : length vs ≤ max_items

-- what is so of every scope
pub record IsScope (bs : List (List ℕ × Val)) : Type 0 where
  pub shallow : scope_depth bs ≤ max_depth
  pub sorted : IsSortedByName bs
