-- Names with values, gathered in order.
use Rattle.std.proofs.Common.{◌≡◌, ℕ, Bool, true, false, cond, List, [], ◌∷◌, ◌++◌, map, filter, append_assoc, refl, sym, ap, ◌∙◌, subst}
use Rattle.std.specs.declared.cmp.Ordering.TheVariants.{Less}
use Rattle.std.specs.List.{AllByRecursion}
use Rattle.std.specs.Map.{keys_of}
use Rattle.std.specs.List.Sorted.{IsStrictlySortedBy}
use Rattle.gn_values.specs.Val.{Val, IsSortedByName, names_of}
use Rattle.gn_values.specs.View.{val_of}
use Rattle.gn_values.specs.declared.value.Value.{Value}
use Rattle.gn_environment.proofs.Names.{order}
use Rattle.gn_environment.specs.Layers.{VariableState}
use Rattle.gn_environment.specs.Imports.{is_public, public_part}
use Rattle.gn_layers.specs.View.{variables_in, pair_value, value_pairs}
use Rattle.gn_layers.specs.declared.variable.Variable.{Variable}

pub values_seen : (es : List (List ℕ × Variable)) → map (λ (v : List ℕ × VariableState). (v.0, v.1.value)) (variables_in es) ≡ map pair_value es
values_seen [] = refl
values_seen (e ∷ es) = ap (λ vs. pair_value e ∷ vs) (values_seen es)

pub names_seen : (es : List (List ℕ × Value)) → names_of (value_pairs es) ≡ keys_of es
names_seen [] = refl
names_seen (e ∷ es) = ap (λ ns. e.0 ∷ ns) (names_seen es)

front_names : (P : List ℕ → Type 0) (bs cs : List (List ℕ × Val)) (b : List ℕ × Val) → AllByRecursion P (names_of (bs ++ b ∷ cs)) → AllByRecursion P (names_of (bs ++ b ∷ []))
front_names P [] cs b a = (a.0, tt)
front_names P (x ∷ bs) cs b a = (a.0, front_names P bs cs b a.1)

sorted_front : (bs cs : List (List ℕ × Val)) (b : List ℕ × Val) → IsSortedByName (bs ++ b ∷ cs) → IsSortedByName (bs ++ b ∷ [])
unfolding IsStrictlySortedBy
sorted_front [] cs b s = (tt, tt)
sorted_front (x ∷ bs) cs b s = (front_names (λ y. order x.0 y ≡ Less) bs cs b s.0, sorted_front bs cs b s.1)

-- one more name
module _ (bs whole : List (List ℕ × Val)) (e : List ℕ × Value) (es : List (List ℕ × Value)) (so_far : bs ++ value_pairs (e ∷ es) ≡ whole) where
  pub stays_sorted : IsSortedByName whole → IsSortedByName (bs ++ (e.0, val_of e.1) ∷ [])
  stays_sorted sorted =
      sorted_front bs (value_pairs es) (e.0, val_of e.1) (subst (λ (l : List (List ℕ × Val)). IsSortedByName l) (sym so_far) sorted)

  pub moved_on : (after : List (List ℕ × Val)) → after ≡ bs ++ (e.0, val_of e.1) ∷ [] → after ++ value_pairs es ≡ whole
  moved_on after is =
      ap (λ ds. ds ++ value_pairs es) is ∙ append_assoc bs ((e.0, val_of e.1) ∷ []) (value_pairs es) ∙ so_far

-- the entries whose names pass a test are the same seen as values
pub values_passing : (test : List ℕ → Bool) (es : List (List ℕ × Value)) → value_pairs (filter (λ (e : List ℕ × Value). test e.0) es) ≡ filter (λ (e : List ℕ × Val). test e.0) (value_pairs es)
values_passing test [] = refl
values_passing test (e ∷ es) =
    elim (test e.0) as (λ b. value_pairs (cond b (e ∷ filter (λ (d : List ℕ × Value). test d.0) es) (filter (λ (d : List ℕ × Value). test d.0) es)) ≡ cond b ((e.0, val_of e.1) ∷ filter (λ (d : List ℕ × Val). test d.0) (value_pairs es)) (filter (λ (d : List ℕ × Val). test d.0) (value_pairs es))) [ true ↦ ap (λ vs. (e.0, val_of e.1) ∷ vs) (values_passing test es) | false ↦ values_passing test es ]

-- the names that don't begin with `_` are the same seen as values
pub values_public : (es : List (List ℕ × Value)) → value_pairs (public_part es) ≡ public_part (value_pairs es)
values_public [] = refl
values_public (e ∷ es) =
    elim (is_public e.0) as (λ b. value_pairs (cond b (e ∷ public_part es) (public_part es)) ≡ cond b ((e.0, val_of e.1) ∷ public_part (value_pairs es)) (public_part (value_pairs es))) [ true ↦ ap (λ vs. (e.0, val_of e.1) ∷ vs) (values_public es) | false ↦ values_public es ]
