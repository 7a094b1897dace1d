-- What a value stands for, and what its parts keep.
use Rattle.std.specs.Prelude.{◌≡◌, ℕ, List, map}
use Rattle.gn_text.specs.Marks.{AllMarked}
use Rattle.gn_text.specs.declared.marks.Marks.{Marks}
use Rattle.gn_values.specs.Val.{Val, vbool, vint, vstr, vlist, vscope, vals_of, binds_of, list_depth, scope_depth, names_of, IsSortedByName}
use Rattle.gn_values.specs.Limits.{IsList, IsScope}
use Rattle.gn_values.specs.declared.value.Value.{Value}
use Rattle.gn_values.specs.declared.value.Value.TheVariants.{Bool, Int, Str, List as VList, Scope}
use Rattle.gn_values.specs.declared.value.Entry.{Entry}

abbrev pub val_of : Value → Val
val_of (Bool b) = vbool b
val_of (Int n) = vint n
val_of (Str t) = vstr t
val_of (VList vs) = vlist (vals_of vs)
val_of (Scope bs) = vscope (binds_of bs)

abbrev pub vals_in : List Value → List Val
vals_in vs = map val_of vs

abbrev pub entry_of : Entry → List ℕ × Val
entry_of e = (e.name, val_of e.value)

abbrev pub entries_in : List Entry → List (List ℕ × Val)
entries_in es = map entry_of es

-- a list is within the limits, and its depth is the one kept beside it
pub record KeepsItems (vs : List Val) (depth : ℕ) : Type 0 where
  pub counted : depth ≡ list_depth vs
  pub limits : IsList vs

-- a scope is sorted and within the limits, and its depth is the one kept beside it
pub record KeepsEntries (bs : List (List ℕ × Val)) (depth : ℕ) : Type 0 where
  pub counted : depth ≡ scope_depth bs
  pub limits : IsScope bs

-- bindings are sorted, and the mark of each name is there
pub record KeepsNames (bs : List (List ℕ × Val)) (marks : Marks) : Type 0 where
  pub sorted : IsSortedByName bs
  pub marked : AllMarked marks (names_of bs)
