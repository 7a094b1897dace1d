-- The entries that are forwarded.
use Rattle.std.proofs.Common.{◌≡◌, ℕ, true, false, not, cond, map, List, [], ◌∷◌, refl, ap}
use Rattle.std.specs.List.{filter}
use Rattle.gn_values.specs.View.{entry_of}
use Rattle.gn_values.specs.declared.value.Entry.{Entry}
use Rattle.gn_environment.specs.Chains.{is_one_of}
use Rattle.gn_environment.specs.Giving.{entries_but}

-- entries but the excepted ones, by the entries that the code has
pub but_seen : (except : List (List ℕ)) (es : List Entry) → map entry_of (filter (λ (e : Entry). not (is_one_of e.name except)) es) ≡ entries_but except (map entry_of es)
but_seen except [] = refl
but_seen except (e ∷ es) =
    elim (is_one_of e.name except) as (λ b. map entry_of (cond (not b) (e ∷ filter (λ (x : Entry). not (is_one_of x.name except)) es) (filter (λ (x : Entry). not (is_one_of x.name except)) es)) ≡ cond (not b) (entry_of e ∷ entries_but except (map entry_of es)) (entries_but except (map entry_of es))) [ true ↦ but_seen except es | false ↦ ap (λ xs. entry_of e ∷ xs) (but_seen except es) ]
