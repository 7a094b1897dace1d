-- The unread name of a table by numbers whose last assignment stands first: that of the table by names.
use Rattle.std.proofs.Common.{◌≡◌, ℕ, cond, T, List, [], ◌∷◌, slice_get, Some, None, refl, sym, ap, ◌∙◌}
use Rattle.std.specs.List.{AllByRecursion}
use Rattle.std.specs.FinMap.{is_sorted}
use Rattle.std.specs.FinMap.Entries.{below_all}
use Rattle.std.specs.Ordering.{is_eq, match_ordering}
use Rattle.std.specs.Cmp.{tied_itself}
use Rattle.std.specs.Cmp.Lexicographic.{nat_list_cmp_total}
use Rattle.std.proofs.lemmas.Option.{none-some}
use Rattle.gn_text.specs.Names.{AllDifferent}
use Rattle.gn_values.specs.Tables.{Table, at_name, with_name}
use Rattle.gn_environment.proofs.Names.{order}
use Rattle.gn_environment.specs.Layers.{VariableState}
use Rattle.gn_layers.specs.Named.{key, numbered_name, named, texted, IsNumber, IsNumbered}
use Rattle.gn_environment.specs.Unread.{first_unread_of, earlier, unread_at}
use Rattle.gn_environment.proofs.Earlier.{earlier_swap}
use Rattle.gn_environment.proofs.Names.{by_order}
use Rattle.gn_basics.proofs.Tests.{second_holds}
use Rattle.gn_scopes.proofs.Entries.{first, lookup_behind}
use Rattle.gn_scopes.proofs.NamedTables.{name_at, at_number}

-- a name that is new to a table
unread_with_new : (name : List ℕ) (v : VariableState) (t : Table VariableState) → at_name name t ≡ None → first_unread_of (with_name name v t) ≡ earlier (unread_at name v.unread) (first_unread_of t)
unread_with_new name v [] none = refl
unread_with_new name v (e ∷ es) none =
    by_order (λ r. cond (is_eq r) (Some e.1) (at_name name es) ≡ None → first_unread_of (match_ordering r ((name, v) ∷ e ∷ es) ((e.0, v) ∷ es) (e ∷ with_name name v es)) ≡ earlier (unread_at name v.unread) (first_unread_of (e ∷ es))) (order name e.0)
    (λ h. refl)
    (λ h. absurd (none-some e.1 (sym h)))
    (λ h. ap (earlier (unread_at e.0 e.1.unread)) (unread_with_new name v es h) ∙ earlier_swap (unread_at e.0 e.1.unread) (unread_at name v.unread) (first_unread_of es))
    none

module _ (names : List (List ℕ)) (different : AllDifferent names) where
  -- the name of a table's first number is none of the other ones
  other_name : (k : List ℕ) (t : Table VariableState) → IsNumber names k → IsNumbered names t → T (below_all order k t) → at_name (numbered_name names k) (named names t) ≡ None
  other_name k t h numbered below =
      let found : slice_get names h.0 ≡ Some (numbered_name names k) = name_at names h.0 h.2 ∙ ap Some (ap (numbered_name names) (sym h.1)) in
      at_number names different (numbered_name names k) h.0 found t numbered
      ∙ lookup_behind order nat_list_cmp_total (key h.0) k t (ap (order (key h.0)) h.1 ∙ tied_itself nat_list_cmp_total (key h.0)) below

  all_unread : (t : Table VariableState) → AllByRecursion (λ e. IsNumber names e.0) t → T (is_sorted order t) → first_unread_of (texted names t) ≡ first_unread_of (named names t)
  all_unread [] h g = refl
  all_unread (e ∷ es) h g =
      ap (earlier (unread_at (numbered_name names e.0) e.1.unread)) (all_unread es h.1 (second_holds _ _ g))
      ∙ sym (unread_with_new (numbered_name names e.0) e.1 (named names es) (other_name e.0 es h.0 (record { numbers = h.1; rise = second_holds _ _ g }) (first _ _ g)))

  pub named_unread : (t : Table VariableState) → IsNumbered names t → first_unread_of (texted names t) ≡ first_unread_of (named names t)
  named_unread t numbered = all_unread t numbered.numbers numbered.rise
