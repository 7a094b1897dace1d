-- The values of the language, as contracts see them: booleans, integers, strings of bytes, lists of values,
-- and scopes, which are lists of names with values.
use Rattle.std.specs.Prelude.{ℕ, ℤ, List, [], ◌∷◌, Bool, suc, max, map}
use Rattle.std.specs.Ordering.{nat_cmp}
use Rattle.std.specs.Cmp.Lexicographic.{slice_cmp}
use Rattle.std.specs.List.Sorted.{IsStrictlySortedBy}

mutual
  pub data Val : Type 0 where
    vbool : Bool → Val
    vint : ℤ → Val
    vstr : List ℕ → Val
    vlist : Vals → Val
    vscope : Binds → Val

  -- the items of a list
  pub data Vals : Type 0 where
    no_vals : Vals
    val_then : Val → Vals → Vals

  -- the entries of a scope
  pub data Binds : Type 0 where
    no_binds : Binds
    bind_then : List ℕ → Val → Binds → Binds

-- the items of a list and the entries of a scope as lists, and back
abbrev pub vals_of : List Val → Vals
vals_of [] = no_vals
vals_of (v ∷ vs) = val_then v (vals_of vs)

abbrev pub list_of : Vals → List Val
list_of no_vals = []
list_of (val_then v vs) = v ∷ list_of vs

abbrev pub binds_of : List (List ℕ × Val) → Binds
binds_of [] = no_binds
binds_of (b ∷ bs) = bind_then b.0 b.1 (binds_of bs)

abbrev pub entries_of : Binds → List (List ℕ × Val)
entries_of no_binds = []
entries_of (bind_then n v bs) = (n, v) ∷ entries_of bs

-- how deep a value nests: a boolean, an integer and a string 0 deep, the empty list and the empty scope 1 deep, and
-- any other list or scope one more than the deepest value in it
abbrev mutual
  pub depth_of : Val → ℕ
  depth_of (vbool b) = 0
  depth_of (vint n) = 0
  depth_of (vstr t) = 0
  depth_of (vlist vs) = suc (deepest_item vs)
  depth_of (vscope bs) = suc (deepest_entry bs)

  pub deepest_item : Vals → ℕ
  deepest_item no_vals = 0
  deepest_item (val_then v vs) = max (depth_of v) (deepest_item vs)

  pub deepest_entry : Binds → ℕ
  deepest_entry no_binds = 0
  deepest_entry (bind_then n v bs) = max (depth_of v) (deepest_entry bs)

abbrev pub list_depth : List Val → ℕ
list_depth vs = suc (deepest_item (vals_of vs))

abbrev pub scope_depth : List (List ℕ × Val) → ℕ
scope_depth bs = suc (deepest_entry (binds_of bs))

-- the names of the entries
abbrev pub names_of : List (List ℕ × Val) → List (List ℕ)
names_of bs = map (λ b. b.0) bs

-- the entries stand in the order of the bytes of their names, and no name stands twice
abbrev pub IsSortedByName : List (List ℕ × Val) → Type 0
IsSortedByName bs = IsStrictlySortedBy (slice_cmp nat_cmp) (names_of bs)
