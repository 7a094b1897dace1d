-- Rules over numbers of facts, and which rules use a fact.
use Rattle.std.specs.Prelude.{◌≡◌, ℕ, List, [], Option, Some, None, map, Vec, Bool, true, nat_eq, slice_get}
use Rattle.std.specs.List.{list_any}
use Rattle.std.specs.declared.alloc.Global.{Global}
use Rattle.gn_closure.specs.Closure.{Horn}
use Rattle.gn_graph.specs.declared.clause.Clause.{Clause}

-- the list has the number
abbrev pub has : List ℕ → ℕ → Bool
has xs q = list_any (nat_eq q) xs

abbrev pub horn : List ℕ → ℕ → Horn ℕ
horn needs gives = record { needs = needs; gives = gives }

abbrev pub horn_of : Clause → Horn ℕ
horn_of c = record { needs = c.needs.items; gives = c.gives }

abbrev pub horns : List Clause → List (Horn ℕ)
horns cs = map horn_of cs

abbrev pub items_of : Option (Vec ℕ Global) → List ℕ
items_of None = []
items_of (Some v) = v.items

-- the rules that use a fact, and maybe others
abbrev pub waits_at : Vec (Vec ℕ Global) Global → ℕ → List ℕ
waits_at lists p = items_of (slice_get lists.items p)

-- what follows from rules and from facts that hold
pub data Follows (rs : List (Horn ℕ)) (base : List ℕ) : ℕ → Type 0 where
  held : (f : ℕ) → has base f ≡ true → Follows rs base f
  rule : (i : ℕ) (r : Horn ℕ) (f : ℕ) → slice_get rs i ≡ Some r → r.gives ≡ f → ((p : ℕ) → has r.needs p ≡ true → Follows rs base p) → Follows rs base f
