-- Entries with a name set: their order, their depth, and where the place of the name is known.
use Rattle.std.proofs.Common.{◌≡◌, ℕ, zero, suc, ◌+◌, ◌<◌, ◌≤◌, max, true, false, cond, List, [], ◌∷◌, ◌++◌, length, get_or, take, map, is_none, Some, None, Result, Ok, Err, Ordering, sym, ap, ◌∙◌, subst, arith}
use Rattle.std.specs.Prelude.{slice_set}
use Rattle.std.specs.Ordering.{is_eq, match_ordering, ordering_reverse}
use Rattle.std.specs.declared.cmp.Ordering.TheVariants.{Less, Equal, Greater}
use Rattle.std.specs.Cmp.Lexicographic.{nat_list_cmp_total}
use Rattle.std.specs.List.{AllByRecursion, insert}
use Rattle.std.specs.List.Sorted.{IsStrictlySortedBy}
use Rattle.std.proofs.lemmas.Bool.Decides.{nat_tests}
use Rattle.gn_values.specs.Val.{Val, IsSortedByName, names_of, binds_of, depth_of, deepest_entry, scope_depth}
use Rattle.gn_values.specs.Limits.{max_depth, scope_fits, IsScope}
use Rattle.gn_values.specs.Operators.{value_at, with_entry}
use Rattle.gn_values.specs.View.{val_of, entry_of, entries_in, KeepsEntries}
use Rattle.gn_values.specs.declared.value.Entry.{Entry}
use Rattle.gn_values.specs.Search.{IsPlaceOf}
use Rattle.gn_basics.proofs.Lists.{took_more}
use Rattle.gn_basics.proofs.Orders.{order, by_answer}
use Rattle.gn_values.proofs.Sorted.{AboveFirst, StandsAt, at_entry, between, value_there, no_value}

module _ (k : List ℕ) (v : Val) where
  set_step : (b : List ℕ × Val) (bs : List (List ℕ × Val)) (r : Ordering) → order k b.0 ≡ r → with_entry (b ∷ bs) k v ≡ match_ordering r ((k, v) ∷ b ∷ bs) ((b.0, v) ∷ bs) (b ∷ with_entry bs k v)
  set_step b bs r h = ap (λ o. match_ordering o ((k, v) ∷ b ∷ bs) ((b.0, v) ∷ bs) (b ∷ with_entry bs k v)) h

  -- what holds of the names and of this one holds of all after it is set
  pub all_with : (P : List ℕ → Type 0) (bs : List (List ℕ × Val)) → P k → AllByRecursion P (names_of bs) → AllByRecursion P (names_of (with_entry bs k v))
  all_with P [] p a = (p, tt)
  all_with P (b ∷ bs) p a = by_answer (order k b.0)
      (λ h. subst (λ (l : List (List ℕ × Val)). AllByRecursion P (names_of l)) (sym (set_step b bs Less h)) (p, a))
      (λ h. subst (λ (l : List (List ℕ × Val)). AllByRecursion P (names_of l)) (sym (set_step b bs Equal h)) a)
      (λ h. subst (λ (l : List (List ℕ × Val)). AllByRecursion P (names_of l)) (sym (set_step b bs Greater h)) (a.0, all_with P bs p a.1))

  all_behind : (x : List ℕ) (bs : List (List ℕ × Val)) → order k x ≡ Less → AllByRecursion (λ y. order x y ≡ Less) (names_of bs) → AllByRecursion (λ y. order k y ≡ Less) (names_of bs)
  all_behind x [] h a = tt
  all_behind x (b ∷ bs) h a = (nat_list_cmp_total.trans k x b.0 h a.0, all_behind x bs h a.1)

  -- setting a name keeps the order of the names
  pub sorted_with : (bs : List (List ℕ × Val)) → IsSortedByName bs → IsSortedByName (with_entry bs k v)
  unfolding IsStrictlySortedBy
  sorted_with [] s = (tt, tt)
  sorted_with (b ∷ bs) s = by_answer (order k b.0)
      (λ h. subst (λ (l : List (List ℕ × Val)). IsSortedByName l) (sym (set_step b bs Less h)) ((h, all_behind b.0 bs h s.0), s))
      (λ h. subst (λ (l : List (List ℕ × Val)). IsSortedByName l) (sym (set_step b bs Equal h)) s)
      (λ h. subst (λ (l : List (List ℕ × Val)). IsSortedByName l) (sym (set_step b bs Greater h)) (all_with (λ y. order b.0 y ≡ Less) bs (nat_list_cmp_total.antisymm b.0 k ∙ ap ordering_reverse h) s.0, sorted_with bs s.1))

  -- a scope with a name set is as deep as the value at least, and no deeper than the deeper of the two
  pub depth_with : (bs : List (List ℕ × Val)) → (depth_of v ≤ deepest_entry (binds_of (with_entry bs k v))) × (deepest_entry (binds_of (with_entry bs k v)) ≤ max (deepest_entry (binds_of bs)) (depth_of v))
  depth_with [] = (omega arith, omega arith)
  depth_with (b ∷ bs) = by_answer (order k b.0)
      (λ h. subst (λ (l : List (List ℕ × Val)). (depth_of v ≤ deepest_entry (binds_of l)) × (deepest_entry (binds_of l) ≤ max (deepest_entry (binds_of (b ∷ bs))) (depth_of v))) (sym (set_step b bs Less h)) (omega arith, omega arith))
      (λ h. subst (λ (l : List (List ℕ × Val)). (depth_of v ≤ deepest_entry (binds_of l)) × (deepest_entry (binds_of l) ≤ max (deepest_entry (binds_of (b ∷ bs))) (depth_of v))) (sym (set_step b bs Equal h)) (omega arith, omega arith))
      (λ h. let r = depth_with bs in subst (λ (l : List (List ℕ × Val)). (depth_of v ≤ deepest_entry (binds_of l)) × (deepest_entry (binds_of l) ≤ max (deepest_entry (binds_of (b ∷ bs))) (depth_of v))) (sym (set_step b bs Greater h)) (omega arith, omega arith))

  -- a look at the first entry
  pub found_here : (b : List ℕ × Val) (bs : List (List ℕ × Val)) (r : Ordering) → order k b.0 ≡ r → value_at k (b ∷ bs) ≡ cond (is_eq r) (Some b.1) (value_at k bs)
  found_here b bs r h = ap (λ o. cond (is_eq o) (Some b.1) (value_at k bs)) h

  -- with a new name it is as deep as the deeper of the two
  pub depth_with_new : (bs : List (List ℕ × Val)) → is_none (value_at k bs) ≡ true → deepest_entry (binds_of (with_entry bs k v)) ≡ max (deepest_entry (binds_of bs)) (depth_of v)
  depth_with_new [] n = omega arith
  depth_with_new (b ∷ bs) n = by_answer (order k b.0)
      (λ h. ap (λ l. deepest_entry (binds_of l)) (set_step b bs Less h) ∙ omega arith)
      (λ h. absurd (let f : false ≡ true = sym (ap is_none (found_here b bs Equal h)) ∙ n in cc))
      (λ h. let r = depth_with_new bs (sym (ap is_none (found_here b bs Greater h)) ∙ n) in ap (λ l. deepest_entry (binds_of l)) (set_step b bs Greater h) ∙ omega arith)

  -- with a name that was there the former value was no deeper than the scope, and the rest is as deep as before
  pub depth_with_former : (bs : List (List ℕ × Val)) (old : Val) → value_at k bs ≡ Some old → (depth_of old ≤ deepest_entry (binds_of bs)) × (deepest_entry (binds_of bs) ≤ max (deepest_entry (binds_of (with_entry bs k v))) (depth_of old))
  depth_with_former [] old n = absurd (let f : None ≡ Some old = n in cc)
  depth_with_former (b ∷ bs) old n = by_answer (order k b.0)
      (λ h. let r = depth_with_former bs old (sym (found_here b bs Less h) ∙ n) in let e = ap (λ l. deepest_entry (binds_of l)) (set_step b bs Less h) in (omega arith, omega arith))
      (λ h. let same : Some b.1 ≡ Some old = sym (found_here b bs Equal h) ∙ n in let is : b.1 ≡ old = cc in let deep = ap depth_of is in let e = ap (λ l. deepest_entry (binds_of l)) (set_step b bs Equal h) in (omega arith, omega arith))
      (λ h. let r = depth_with_former bs old (sym (found_here b bs Greater h) ∙ n) in let e = ap (λ l. deepest_entry (binds_of l)) (set_step b bs Greater h) in (omega arith, omega arith))

  -- an entry put in where the name would stand
  pub inserted : (es : List Entry) (i : ℕ) (e : Entry) → i ≤ length es → entry_of e ≡ (k, v) → AboveFirst k es i → StandsAt k es i Less → entries_in (insert es i e) ≡ with_entry (entries_in es) k v
  inserted [] zero e l is a h = ap (λ x. x ∷ []) is
  inserted [] (suc i) e l is a h = absurd a
  inserted (x ∷ es) zero e l is a h = ap (λ y. y ∷ entry_of x ∷ entries_in es) is ∙ sym (set_step (entry_of x) (entries_in es) Less h)
  inserted (x ∷ es) (suc i) e l is a h =
      ap (λ ys. entry_of x ∷ ys) (inserted es i e (omega arith) is a.1 h) ∙ sym (set_step (entry_of x) (entries_in es) Greater a.0)

  -- a value put in at the entry of the name
  pub replaced : (es : List Entry) (i : ℕ) (d e : Entry) → i < length es → e.name ≡ (get_or es i d).name → val_of e.value ≡ v → AboveFirst k es i → StandsAt k es i Equal → entries_in (slice_set es i e) ≡ with_entry (entries_in es) k v
  replaced [] i d e l n w a h = absurd (omega arith)
  replaced (x ∷ es) zero d e l n w a h =
      (λ i. (n i, w i) ∷ entries_in es) ∙ sym (set_step (entry_of x) (entries_in es) Equal h)
  replaced (x ∷ es) (suc i) d e l n w a h =
      ap (λ ys. entry_of x ∷ ys) (replaced es i d e (omega arith) n w a.1 h) ∙ sym (set_step (entry_of x) (entries_in es) Greater a.0)

deepest_entry-append : (bs cs : List (List ℕ × Val)) → deepest_entry (binds_of (bs ++ cs)) ≡ max (deepest_entry (binds_of bs)) (deepest_entry (binds_of cs))
deepest_entry-append [] cs = omega arith
deepest_entry-append (b ∷ bs) cs = omega (arith, deepest_entry-append bs cs)

-- one more entry looked at
pub deepest_more : (es : List Entry) (i : ℕ) (x : Entry) → i < length es → x ≡ get_or es i x → deepest_entry (binds_of (take (i + 1) (map entry_of es))) ≡ max (deepest_entry (binds_of (take i (map entry_of es)))) (depth_of (val_of x.value))
deepest_more es i x l e =
    ap (λ bs. deepest_entry (binds_of bs)) (took_more entry_of es i x l e) ∙ deepest_entry-append (take i (map entry_of es)) (entry_of x ∷ []) ∙ omega arith

pub place_moved : (k ns : List ℕ) (es fs : List Entry) (r : Result ℕ ℕ) → ns ≡ k → fs ≡ es → IsPlaceOf ns fs r → IsPlaceOf k es r
place_moved k ns es fs r n e p = subst (λ (l : List Entry). IsPlaceOf k l r) e (subst (λ (m : List ℕ). IsPlaceOf m fs r) n p)

module _ (k : List ℕ) (v : Val) (ns : List ℕ) (es fs : List Entry) (i : ℕ) where
  pub put_there : (d e : Entry) → ns ≡ k → fs ≡ es → IsSortedByName (entries_in es) → IsPlaceOf ns fs (Ok i) → e.name ≡ (get_or es i d).name → val_of e.value ≡ v → entries_in (slice_set es i e) ≡ with_entry (entries_in es) k v
  put_there d e n same s p name value =
      let q = place_moved k ns es fs (Ok i) n same p in
      let at = at_entry k es i s q.0 q.1 in
      replaced k v es i d e q.0 name value at.0 at.1

  pub put_between : (e : Entry) → ns ≡ k → fs ≡ es → IsPlaceOf ns fs (Err i) → entry_of e ≡ (k, v) → entries_in (insert es i e) ≡ with_entry (entries_in es) k v
  put_between e n same p is =
      let q = place_moved k ns es fs (Err i) n same p in
      let at = between k es i q.0 q.1 in
      inserted k v es i e q.0 is at.0 at.1

  pub not_new : (d : Entry) → ns ≡ k → fs ≡ es → IsSortedByName (entries_in es) → IsPlaceOf ns fs (Ok i) → false ≡ is_none (value_at k (entries_in es))
  not_new d n same s p =
      let q = place_moved k ns es fs (Ok i) n same p in
      let at = at_entry k es i s q.0 q.1 in
      ap is_none (sym (value_there k es i d q.0 at.0 at.1))

  pub is_new : ns ≡ k → fs ≡ es → IsSortedByName (entries_in es) → IsPlaceOf ns fs (Err i) → true ≡ is_none (value_at k (entries_in es))
  is_new n same s p =
      let q = place_moved k ns es fs (Err i) n same p in
      let at = between k es i q.0 q.1 in
      ap is_none (sym (no_value k es i s at.0 at.1))

-- a scope after a name was set
module _ (es fs : List Entry) (k : List ℕ) (v : Val) (d d' : ℕ) where
  pub keeps_new : KeepsEntries (entries_in es) d → entries_in fs ≡ with_entry (entries_in es) k v → is_none (value_at k (entries_in es)) ≡ true → depth_of v < max_depth → d' ≡ max d (depth_of v + 1) → KeepsEntries (entries_in fs) d'
  keeps_new j e n l m =
      let deep = depth_with_new k v (entries_in es) n in
      let shallow = j.limits.shallow in
      subst (λ (bs : List (List ℕ × Val)). KeepsEntries bs d') (sym e)
      (record { counted = omega (arith, j.counted); limits = record { shallow = omega (arith, j.counted); sorted = sorted_with k v (entries_in es) j.limits.sorted } })

  pub keeps_replaced : KeepsEntries (entries_in es) d → entries_in fs ≡ with_entry (entries_in es) k v → depth_of v < max_depth → d' ≡ scope_depth (entries_in fs) → KeepsEntries (entries_in fs) d'
  keeps_replaced j e l m =
      let deep = depth_with k v (entries_in es) in
      let shallow = j.limits.shallow in
      let same : scope_depth (entries_in fs) ≡ scope_depth (with_entry (entries_in es) k v) = ap scope_depth e in
      record { counted = m; limits = record { shallow = omega (arith, deep.1); sorted = subst (λ (bs : List (List ℕ × Val)). IsSortedByName bs) (sym e) (sorted_with k v (entries_in es) j.limits.sorted) } }

pub scope_fits-scope : (bs : List (List ℕ × Val)) → IsScope bs → scope_fits bs ≡ true
scope_fits-scope bs h = let a = h.shallow in grind (arith, nat_tests)

pub too_deep : (bs : List (List ℕ × Val)) (k : List ℕ) (v : Val) → max_depth ≤ depth_of v → scope_fits (with_entry bs k v) ≡ false
too_deep bs k v h = let deep = (depth_with k v bs).0 in grind (arith, nat_tests)
