-- Tables in the order of texts: entries are put behind others, sorted, and each kept once.
use Rattle.std.proofs.Common.{◌≡◌, ◌⊎◌, inl, inr, ℕ, List, [], ◌∷◌, ◌++◌, map, Bool, true, refl, sym, ◌∙◌, ap, subst, arith}
use Rattle.std.specs.declared.cmp.Ordering.{Ordering}
use Rattle.std.specs.declared.cmp.Ordering.TheVariants.{Less, Equal, Greater}
use Rattle.std.specs.Ordering.{eq_by_cmp, is_eq}
use Rattle.std.specs.Cmp.{IsTotalOrder, IsEquivalence, eq_by_cmp_equiv}
use Rattle.std.specs.List.{Any, AllByRecursion, Contains, dedup}
use Rattle.std.specs.List.Sorted.{IsPermutation, IsSorted, IsStrictlySortedBy}
use Rattle.std.proofs.lemmas.List.Kept.{Any-dedup, Contains-from_dedup, IsStrictlySortedBy-dedup}
use Rattle.std.proofs.lemmas.List.Sorted.{Contains-permutation, IsPermutation-sym}
use Rattle.std.proofs.lemmas.List.Elements.{Contains-append_left, Contains-append_right, Contains-append_cases, Contains-push, Contains-push_cases}
use Rattle.gn_basics.proofs.Orders.{texts_cmp}
use Rattle.gn_outside.specs.Lists.{Each}
use Rattle.gn_closure.specs.Closure.{In}
use Rattle.gn_judging.specs.Whole.{IsTable, IsOrdered}

pub each_wider : {X : Type 0} (P Q : X → Type 0) → ((x : X) → P x → Q x) → (xs : List X) → Each P xs → Each Q xs
each_wider P Q wider [] each = tt
each_wider P Q wider (x ∷ xs) each = (wider x each.0, each_wider P Q wider xs each.1)

-- Lists, their elements, and what is contained in them

module _ {E : Type 0} where
  nothing_contained : (e : E) → Contains [] e → ⊥
  nothing_contained e c = omega (arith, c.1)

  contained_cases : (x : E) (xs : List E) (e : E) → Contains (x ∷ xs) e → (x ≡ e) ⊎ Contains xs e
  contained_cases x xs e c = elim (Contains-append_cases (x ∷ []) xs e c) [
    | inl a ↦ elim (Contains-push_cases [] x e a) [ inl n ↦ absurd (nothing_contained e n) | inr s ↦ inl s ]
    | inr b ↦ inr b
  ]

  first_contained : (x : E) (xs : List E) → Contains (x ∷ xs) x
  first_contained x xs = Contains-append_left (x ∷ []) xs x (Contains-push [] x)

  each_contained : (P : E → Type 0) (es : List E) → Each P es → (e : E) → Contains es e → P e
  each_contained P [] each e c = absurd (nothing_contained e c)
  each_contained P (x ∷ xs) each e c = elim (contained_cases x xs e c) [ inl s ↦ subst P s each.0 | inr b ↦ each_contained P xs each.1 e b ]

  each_from : (P : E → Type 0) (es : List E) → ((e : E) → Contains es e → P e) → Each P es
  each_from P [] all = tt
  each_from P (x ∷ xs) all = (all x (first_contained x xs), each_from P xs (λ e c. all e (Contains-append_right (x ∷ []) xs e c)))

  each_more : (P : E → Type 0) (es : List E) (e : E) → Each P es → P e → Each P (es ++ e ∷ [])
  each_more P [] e each here = (here, tt)
  each_more P (x ∷ xs) e each here = (each.0, each_more P xs e each.1 here)

module _ {E V : Type 0} (value : E → V) where
  in_contained : (es : List E) (v : V) → In (map value es) v → (e : E) × Contains es e × (value e ≡ v)
  in_contained [] v i = absurd i
  in_contained (x ∷ xs) v (inl s) = (x, first_contained x xs, s)
  in_contained (x ∷ xs) v (inr i) = let m = in_contained xs v i in (m.0, Contains-append_right (x ∷ []) xs m.0 m.1, m.2)

  contained_in : (es : List E) (e : E) → Contains es e → In (map value es) (value e)
  contained_in [] e c = absurd (nothing_contained e c)
  contained_in (x ∷ xs) e c = elim (contained_cases x xs e c) [ inl s ↦ inl (ap value s) | inr b ↦ inr (contained_in xs e b) ]

  in_more : (es : List E) (e : E) (v : V) → In (map value es) v → In (map value (es ++ e ∷ [])) v
  in_more [] e v i = absurd i
  in_more (x ∷ xs) e v (inl s) = inl s
  in_more (x ∷ xs) e v (inr i) = inr (in_more xs e v i)

  last_in : (es : List E) (e : E) → In (map value (es ++ e ∷ [])) (value e)
  last_in [] e = inl refl
  last_in (x ∷ xs) e = inr (last_in xs e)

  -- Tables

  module _ (view : E → List (List ℕ)) (texts : V → List (List ℕ)) where
    abbrev pub Stands : (V → Type 0) → E → Type 0
    Stands has e = has (value e) × (view e ≡ texts (value e))

    pub table_empty : (has : V → Type 0) → ((v : V) → has v → ⊥) → IsTable value view texts has []
    table_empty has none = record { each = tt; all = λ v h. absurd (none v h) }

    -- nothing is put behind
    pub table_same : (has more : V → Type 0) (es : List E) → ((w : V) → has w → more w) → ((w : V) → more w → has w) → IsTable value view texts has es → IsTable value view texts more es
    table_same has more es wider back table = record { each = each_wider (Stands has) (Stands more) (λ e s. (wider (value e) s.0, s.1)) es table.each; all = λ v m. table.all v (back v m) }

    -- one more entry
    pub table_more : (has more : V → Type 0) (es : List E) (e : E) → view e ≡ texts (value e) → more (value e) → ((w : V) → has w → more w) → ((w : V) → more w → has w ⊎ (w ≡ value e))
        → IsTable value view texts has es → IsTable value view texts more (es ++ e ∷ [])
    table_more has more es e same here wider cases table = record { each = each_more (Stands more) es e (each_wider (Stands has) (Stands more) (λ f s. (wider (value f) s.0, s.1)) es table.each) (here, same); all = λ w h. by w (cases w h) }
      where
        by : (w : V) → has w ⊎ (w ≡ value e) → In (map value (es ++ e ∷ [])) w
        by w (inl h) = in_more es e w (table.all w h)
        by w (inr s) = subst (In (map value (es ++ e ∷ []))) (sym s) (last_in es e)

    -- the same entries in their order
    pub table_ordered : (cmp : E → E → Ordering) (has : V → Type 0) → ((e f : E) → Stands has e → Stands has f → cmp e f ≡ Equal → value e ≡ value f) → (old new : List E) → IsOrdered cmp old new
        → IsTable value view texts has old → IsTable value view texts has new
    table_ordered cmp has one old new ordered table = record { each = each; all = all }
      where
        each : Each (Stands has) new
        each = each_from (Stands has) new (λ e c. each_contained (Stands has) old table.each e (ordered.from e c))

        all : (v : V) → has v → In (map value new) v
        all v h =
            let m = in_contained old v (table.all v h) in
            let k = ordered.kept m.0 m.1 in
            let same = one m.0 k.0 (each_contained (Stands has) old table.each m.0 m.1) (each_contained (Stands has) new each k.0 k.1) k.2 in
            subst (In (map value new)) (sym same ∙ m.2) (contained_in new k.0 k.1)

    module _ (cmp : E → E → Ordering) (has : V → Type 0) (below : (e f : E) → Stands has e → Stands has f → cmp e f ≡ Less → texts_cmp (texts (value e)) (texts (value f)) ≡ Less) where
      below_all : (e : E) → Stands has e → (es : List E) → Each (Stands has) es → AllByRecursion (λ f. cmp e f ≡ Less) es → AllByRecursion (λ t. texts_cmp (texts (value e)) t ≡ Less) (map texts (map value es))
      below_all e s [] each all = tt
      below_all e s (f ∷ es) each all = (below e f s each.0 all.0, below_all e s es each.1 all.1)

      -- the texts of values are in order where the entries are
      pub table_sorted : (es : List E) → Each (Stands has) es → IsStrictlySortedBy cmp es → IsStrictlySortedBy texts_cmp (map texts (map value es))
      unfolding IsStrictlySortedBy
      table_sorted [] each sorted = tt
      table_sorted (e ∷ es) each sorted = (below_all e each.0 es each.1 sorted.0, table_sorted es each.1 sorted.1)

    -- what is there is one of the values
    pub value_has : (has : V → Type 0) (es : List E) → Each (Stands has) es → (v : V) → In (map value es) v → has v
    value_has has [] each v i = absurd i
    value_has has (e ∷ es) each v (inl s) = subst has s each.0.0
    value_has has (e ∷ es) each v (inr i) = value_has has es each.1 v i

-- Entries that were sorted and lost their repeats are in their order, each once

equal_from : (r : Ordering) → is_eq r ≡ true → r ≡ Equal
equal_from Less e = absurd (cc e)
equal_from Equal e = refl
equal_from Greater e = absurd (cc e)

pub sorted_once : {E : Type 0} (cmp : E → E → Ordering) (same : E → E → Bool) → IsTotalOrder cmp → ((x y : E) → same x y ≡ eq_by_cmp cmp x y) → (old moved new : List E) → IsPermutation old moved → IsSorted cmp moved → new ≡ dedup same moved → IsOrdered cmp old new
sorted_once {E} cmp same total ties old moved new moves sorted is = record {
  sorted = subst (IsStrictlySortedBy cmp) (sym is) (IsStrictlySortedBy-dedup total ties moved sorted);
  from = λ e c. Contains-permutation moved old e (IsPermutation-sym old moved moves) (Contains-from_dedup same moved e (subst (λ (z : List E). Contains z e) is c));
  kept = λ e c. kept e (Any-dedup equiv moved e (Contains-permutation old moved e moves c));
}
  where
    equiv : IsEquivalence same
    equiv = subst IsEquivalence (λ i x y. sym (ties x y) i) (eq_by_cmp_equiv total)

    kept : (e : E) → Any (λ y. same e y ≡ true) (dedup same moved) → (f : E) × Contains new f × (cmp e f ≡ Equal)
    kept e k = (k.1, subst (λ (z : List E). Contains z k.1) (sym is) (k.0, k.2, k.3), equal_from (cmp e k.1) (sym (ties e k.1) ∙ k.4))
