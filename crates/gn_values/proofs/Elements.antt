-- A list with an item set, and a scope with an entry set: how deep they nest, and what is within the limits.
use Rattle.std.proofs.Common.{◌≡◌, ℕ, zero, suc, ◌+◌, ◌<◌, ◌≤◌, ◌⊎◌, inl, inr, max, nat_lt, Some, List, [], ◌∷◌, length, get_or, take, map, Ok, refl, sym, ap, ◌∙◌, subst, arith}
use Rattle.std.specs.Prelude.{slice_set}
use Rattle.std.proofs.lemmas.List.{map-set, length-set, length-map, get_or-map}
use Rattle.std.proofs.Math.Seq.{map-set_same}
use Rattle.std.proofs.lemmas.Bool.Decides.{nat_tests}
use Rattle.gn_values.specs.Val.{Val, vals_of, binds_of, depth_of, deepest_item, deepest_entry, list_depth, scope_depth, IsSortedByName}
use Rattle.gn_values.specs.Limits.{max_depth, list_fits, scope_fits, IsList, IsScope}
use Rattle.gn_values.specs.Operators.{value_at, with_entry}
use Rattle.gn_values.specs.View.{val_of, entry_of, vals_in, entries_in, KeepsItems, KeepsEntries}
use Rattle.gn_values.specs.declared.value.Value.{Value}
use Rattle.gn_values.specs.declared.value.Entry.{Entry}
use Rattle.gn_basics.proofs.Lists.{took_more}
use Rattle.gn_values.proofs.Setting.{depth_with, depth_with_former, put_there}
use Rattle.gn_values.proofs.Sorted.{value_at_place}
use Rattle.gn_values.specs.Search.{IsPlaceOf}
use Rattle.gn_value_model.proofs.Within.{deepest_item-append}

-- one more item looked at
pub deepest_item_more : (xs : List Value) (i : ℕ) (x : Value) → i < length xs → x ≡ get_or xs i x → deepest_item (vals_of (take (i + 1) (map val_of xs))) ≡ max (deepest_item (vals_of (take i (map val_of xs)))) (depth_of (val_of x))
deepest_item_more xs i x l e =
    ap (λ vs. deepest_item (vals_of vs)) (took_more val_of xs i x l e) ∙ deepest_item-append (take i (map val_of xs)) (val_of x ∷ []) ∙ omega arith

-- the deepest element, `most` deep, of a list or a scope and the one after an element that was `old` deep became `new` deep
pub record IsChange (old new most most' : ℕ) : Type 0 where
  pub had : old ≤ most
  pub has : new ≤ most'
  pub rises : most' ≤ max most new
  pub falls : most ≤ max most' old

pub deepest_set : (vs : List Val) (i : ℕ) (v d : Val) → i < length vs → IsChange (depth_of (get_or vs i d)) (depth_of v) (deepest_item (vals_of vs)) (deepest_item (vals_of (slice_set vs i v)))
deepest_set [] i v d l = absurd (omega arith)
deepest_set (x ∷ vs) zero v d l = record { had = omega arith; has = omega arith; rises = omega arith; falls = omega arith }
deepest_set (x ∷ vs) (suc i) v d l =
    let r = deepest_set vs i v d (omega arith) in
    record { had = omega (arith, r.had); has = omega (arith, r.has); rises = omega (arith, r.rises); falls = omega (arith, r.falls) }

-- a list with an item set that isn't too deep
pub fits_set : (vs : List Val) (i : ℕ) (v : Val) → IsList vs → i < length vs → nat_lt (depth_of v) 200 ≡ list_fits (slice_set vs i v)
fits_set vs i v h l =
    let a = h.shallow in
    let b = h.short in
    let r = deepest_set vs i v v l in
    let long = length-set {A = Val} vs i v in
    let x = r.has in
    let y = r.rises in
    grind (arith, nat_tests)

-- an item among the values that stand for items
pub item_there : (xs : List Value) (i : ℕ) (old : Value) → i < length xs → old ≡ get_or xs i old → val_of old ≡ get_or (vals_in xs) i (val_of old)
item_there xs i old l e = ap val_of e ∙ sym (get_or-map val_of xs i old (val_of old) l)

module _ (xs : List Value) (i : ℕ) (old new : Value) (d d' before after : ℕ) where
  change_there : i < length xs → old ≡ get_or xs i old → IsChange (depth_of (val_of old)) (depth_of (val_of new)) (deepest_item (vals_of (vals_in xs))) (deepest_item (vals_of (vals_in (slice_set xs i new))))
  change_there l e =
      let within : i < length (vals_in xs) = omega (arith, length-map xs val_of) in
      subst (λ (vs : List Val). IsChange (depth_of (val_of old)) (depth_of (val_of new)) (deepest_item (vals_of (vals_in xs))) (deepest_item (vals_of vs))) (sym (map-set val_of xs i new))
      (subst (λ (v : Val). IsChange (depth_of v) (depth_of (val_of new)) (deepest_item (vals_of (vals_in xs))) (deepest_item (vals_of (slice_set (vals_in xs) i (val_of new))))) (sym (item_there xs i old l e))
      (deepest_set (vals_in xs) i (val_of new) (val_of old) within))

  pub item_change_known : i < length xs → old ≡ get_or xs i old → KeepsItems (vals_in xs) d → before ≡ depth_of (val_of old) → after ≡ depth_of (val_of new) → (before ≤ after) ⊎ (before + 1 < d) → list_depth (vals_in (slice_set xs i new)) ≡ max d (after + 1)
  item_change_known l e k b a h =
      let r = change_there l e in
      elim h [ inl p ↦ omega (arith, k.counted, r.had, r.has, r.rises, r.falls) | inr p ↦ omega (arith, k.counted, r.had, r.has, r.rises, r.falls) ]

  pub keeps_set : i < length xs → old ≡ get_or xs i old → KeepsItems (vals_in xs) d → depth_of (val_of new) < max_depth → d' ≡ list_depth (vals_in (slice_set xs i new)) → KeepsItems (vals_in (slice_set xs i new)) d'
  keeps_set l e k n c =
      let h = (change_there l e).rises in
      let long : length (vals_in (slice_set xs i new)) ≡ length (vals_in xs) = omega (arith, length-map xs val_of, length-map (slice_set xs i new) val_of, length-set {A = Value} xs i new) in
      record { counted = c; limits = record { shallow = omega (arith, k.limits.shallow); short = omega (arith, k.limits.short) } }

  pub keeps_same : old ≡ get_or xs i old → KeepsItems (vals_in xs) d → val_of new ≡ val_of old → KeepsItems (vals_in (slice_set xs i new)) d
  keeps_same e k same = subst (λ (vs : List Val). KeepsItems vs d) (sym (map-set_same val_of xs i new old (same ∙ ap val_of e))) k

  -- an item is one level less deep than the list
  pub item_shallow : i < length xs → old ≡ get_or xs i old → KeepsItems (vals_in xs) d → depth_of (val_of old) < max_depth
  item_shallow l e k = let h = (change_there l e).had in omega (arith, k.limits.shallow)

-- how long the list of the values is
pub within_items : (xs : List Value) (vs : List Val) (i : ℕ) → vals_in xs ≡ vs → i < length vs → i < length xs
within_items xs vs i e l = omega (arith, length-map xs val_of, ap length e)

-- a scope with an entry set that isn't too deep
pub fits_with : (bs : List (List ℕ × Val)) (k : List ℕ) (v : Val) → IsScope bs → nat_lt (depth_of v) 200 ≡ scope_fits (with_entry bs k v)
fits_with bs k v h =
    let a = h.shallow in
    let deep = depth_with k v bs in
    let x = deep.0 in
    let y = deep.1 in
    grind (arith, nat_tests)

module _ (es es' : List Entry) (k : List ℕ) (old new : Value) (d before after : ℕ) where
  change_with : value_at k (entries_in es) ≡ Some (val_of old) → entries_in es' ≡ with_entry (entries_in es) k (val_of new) → IsChange (depth_of (val_of old)) (depth_of (val_of new)) (deepest_entry (binds_of (entries_in es))) (deepest_entry (binds_of (entries_in es')))
  change_with e n =
      let former = depth_with_former k (val_of new) (entries_in es) (val_of old) e in
      let deep = depth_with k (val_of new) (entries_in es) in
      subst (λ (bs : List (List ℕ × Val)). IsChange (depth_of (val_of old)) (depth_of (val_of new)) (deepest_entry (binds_of (entries_in es))) (deepest_entry (binds_of bs))) (sym n)
      (record { had = former.0; has = deep.0; rises = deep.1; falls = former.1 })

  -- a value is one level less deep than the scope
  pub entry_shallow : value_at k (entries_in es) ≡ Some (val_of old) → KeepsEntries (entries_in es) d → depth_of (val_of old) < max_depth
  entry_shallow e j = let h = (depth_with_former k (val_of new) (entries_in es) (val_of old) e).0 in omega (arith, j.limits.shallow)

  pub entry_change_known : value_at k (entries_in es) ≡ Some (val_of old) → entries_in es' ≡ with_entry (entries_in es) k (val_of new) → KeepsEntries (entries_in es) d → before ≡ depth_of (val_of old) → after ≡ depth_of (val_of new) → (before ≤ after) ⊎ (before + 1 < d) → scope_depth (entries_in es') ≡ max d (after + 1)
  entry_change_known e n j b a h =
      let r = change_with e n in
      elim h [ inl p ↦ omega (arith, j.counted, r.had, r.has, r.rises, r.falls) | inr p ↦ omega (arith, j.counted, r.had, r.has, r.rises, r.falls) ]

-- the entry where a search for its name ended, and the entries with its value changed
module _ (k ns : List ℕ) (es fs : List Entry) (i : ℕ) (x : Entry) (name : ns ≡ k) (same : fs ≡ es) (sorted : IsSortedByName (entries_in es)) (place : IsPlaceOf ns fs (Ok i)) (is : x ≡ get_or es i x) where
  pub found_at : value_at k (entries_in es) ≡ Some (val_of x.value)
  found_at = sym (value_at_place ns (entries_in es) fs es i x refl same sorted place is ∙ ap (λ m. value_at m (entries_in es)) name)

  pub within_at : i < length es
  within_at = let p : i < length fs = place.0 in let long = ap length same in omega arith

  pub changed_at : (new : Value) → entries_in (slice_set es i (record { name = x.name; value = new })) ≡ with_entry (entries_in es) k (val_of new)
  changed_at new = put_there k (val_of new) ns es fs i x (record { name = x.name; value = new }) name same sorted place (ap (λ e. e.name) is) refl

  pub unchanged_at : (new : Value) → val_of new ≡ val_of x.value → entries_in (slice_set es i (record { name = x.name; value = new })) ≡ entries_in es
  unchanged_at new e = map-set_same entry_of es i (record { name = x.name; value = new }) x (ap (λ v. (x.name, v)) e ∙ ap entry_of is)
