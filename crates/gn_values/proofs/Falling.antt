-- What stands in a list or in a scope is less deep than that.
use Rattle.std.proofs.Common.{◌≡◌, ℕ, zero, suc, ◌+◌, ◌<◌, ◌≤◌, List, [], ◌∷◌, length, get_or, ap, arith}
use denote.Param.Weighed.{most}
use Rattle.gn_values.specs.Falls.{items_fall, entries_fall}
use Rattle.gn_values.specs.Val.{Val, list_depth, scope_depth}
use Rattle.gn_values.specs.View.{vals_in, entries_in}
use Rattle.gn_values.specs.declared.value.Value.{Value}
use Rattle.gn_values.specs.declared.value.Entry.{Entry}
use Rattle.gn_values.specs.declared.value.Entries.TheDeep.{deep-Value, deep-Entry}

module _ {X : Type 0} (f : X → ℕ) where
  most_there : (xs : List X) (i : ℕ) (x : X) → i < length xs → x ≡ get_or xs i x → f x ≤ most f xs
  most_there [] i x l e = absurd (omega arith)
  most_there (y ∷ ys) zero x l e = omega (arith, ap f e)
  most_there (y ∷ ys) (suc i) x l e = omega (arith, most_there ys i x (omega arith) e)

pub item_falls : (xs : List Value) (vs : List Val) (i : ℕ) (x : Value) → vals_in xs ≡ vs → i < length xs → x ≡ get_or xs i x → deep-Value x ≤ list_depth vs
item_falls xs vs i x same l e = omega (arith, items_fall xs, most_there (λ v. deep-Value v) xs i x l e, ap list_depth same)

pub entry_falls : (es : List Entry) (bs : List (List ℕ × Val)) (i : ℕ) (x : Entry) → entries_in es ≡ bs → i < length es → x ≡ get_or es i x → deep-Entry x ≤ scope_depth bs
entry_falls es bs i x same l e = omega (arith, entries_fall es, most_there (λ v. deep-Entry v) es i x l e, ap scope_depth same)
