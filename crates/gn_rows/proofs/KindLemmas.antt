-- A kind that is found by a name has it.
use Rattle.std.proofs.Common.{◌≡◌, ℕ, Bool, true, false, cond, List, [], ◌∷◌, Some, refl}
use Rattle.std.specs.Str.{bytes_eq}
use Rattle.std.proofs.lemmas.Slice.Eq.{bytes_eq-Decides}
use Rattle.gn_rows.specs.declared.kinds.ItemKind.{ItemKind}
use Rattle.gn_rows.specs.declared.kinds.TheConstants.{KINDS}
use Rattle.gn_rows.specs.Names.{kind_name, first_kind_named, kind_named}

found_among : (kinds : List ItemKind) (name : List ℕ) (kind : ItemKind) → first_kind_named kinds name ≡ Some kind → name ≡ kind_name kind
found_among [] name kind h = absurd cc
found_among (k ∷ ks) name kind h = by (bytes_eq (kind_name k) name) refl (found_among ks name kind) h
  where
    here : (j : ItemKind) → Some j ≡ Some kind → kind_name j ≡ name → name ≡ kind_name kind
    here j e n = cc

    by : (b : Bool) → bytes_eq (kind_name k) name ≡ b → (first_kind_named ks name ≡ Some kind → name ≡ kind_name kind) → cond b (Some k) (first_kind_named ks name) ≡ Some kind → name ≡ kind_name kind
    by true e again g = here k g ((bytes_eq-Decides (kind_name k) name).0 e)
    by false e again g = again g

pub found_has_name : (name : List ℕ) (kind : ItemKind) → kind_named name ≡ Some kind → name ≡ kind_name kind
found_has_name name kind h = found_among KINDS name kind h
