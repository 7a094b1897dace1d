-- Entries in the order of their names: what a search finds, and what setting a name does.
use Rattle.std.proofs.Common.{◌≡◌, ℕ, zero, suc, ◌+◌, ◌<◌, ◌≤◌, cond, List, [], ◌∷◌, length, get_or, Some, None, Ok, Err, Ordering, refl, sym, ap, ◌∙◌, subst, arith}
use Rattle.std.specs.Ordering.{is_eq, ordering_index, ordering_reverse}
use Rattle.std.specs.declared.cmp.Ordering.TheVariants.{Less, Equal, Greater}
use Rattle.std.specs.Cmp.Lexicographic.{nat_list_cmp_total}
use Rattle.std.specs.List.{AllByRecursion, AllWithin, HoldsAt}
use Rattle.std.proofs.lemmas.List.{get_or_default, length-map}
use Rattle.std.specs.List.Sorted.{IsStrictlySortedBy, IsNonDecreasingBy, IsPartitionPoint}
use Rattle.std.specs.Map.{lookup}
use Rattle.std.specs.BTreeMap.{is_at}
use Rattle.gn_basics.proofs.Orders.{order, tied, by_answer}
use Rattle.gn_values.specs.Search.{IsPlaceOf, IsEntryAt}
use Rattle.gn_values.specs.Operators.{value_at}
use Rattle.gn_values.specs.Val.{Val, IsSortedByName, names_of}
use Rattle.gn_values.specs.View.{val_of, entries_in, entry_of}
use Rattle.gn_values.specs.declared.value.Entry.{Entry}

flipped : (x y : List ℕ) (r : Ordering) → order x y ≡ r → order y x ≡ ordering_reverse r
flipped x y r h = nat_list_cmp_total.antisymm y x ∙ ap ordering_reverse h

index_at_most_two : (r : Ordering) → ordering_index r ≤ 2
index_at_most_two Less = omega arith
index_at_most_two Equal = omega arith
index_at_most_two Greater = omega arith

-- a name that stands before another doesn't answer more against a third
rises : (k x y : List ℕ) → order x y ≡ Less → ordering_index (order x k) ≤ ordering_index (order y k)
rises k x y h =
    let first : order x k ≡ Less → ordering_index (order x k) ≤ ordering_index (order y k) = λ e. subst (λ (r : Ordering). ordering_index r ≤ ordering_index (order y k)) (sym e) (omega arith) in
    by_answer (order y k)
    (λ e. first (nat_list_cmp_total.trans x y k h e))
    (λ e. first (ap (order x) (sym (tied y k e)) ∙ h))
    (λ e. subst (λ (r : Ordering). ordering_index (order x k) ≤ ordering_index r) (sym e) (index_at_most_two (order x k)))

rises_over : (k x : List ℕ) (es : List Entry) → AllByRecursion (λ y. order x y ≡ Less) (names_of (entries_in es)) → (j : ℕ) (d : Entry) → j < length es → ordering_index (order x k) ≤ ordering_index (order (get_or es j d).name k)
rises_over k x [] a j d l = absurd (omega arith)
rises_over k x (e ∷ es) a zero d l = rises k x e.name a.0
rises_over k x (e ∷ es) a (suc j) d l = rises_over k x es a.1 j d (omega arith)

-- the answers of names in order against a name don't fall
pub answers_rise : (k : List ℕ) (es : List Entry) → IsStrictlySortedBy order (names_of (entries_in es)) → IsNonDecreasingBy (λ e. ordering_index (order e.name k)) es
unfolding IsStrictlySortedBy
answers_rise k [] s i j d le lt = absurd (omega arith)
answers_rise k (e ∷ es) s zero zero d le lt = omega arith
answers_rise k (e ∷ es) s zero (suc j) d le lt = rises_over k e.name es s.0 j d (omega arith)
answers_rise k (e ∷ es) s (suc i) zero d le lt = absurd (omega arith)
answers_rise k (e ∷ es) s (suc i) (suc j) d le lt = answers_rise k es s.1 i j d (omega arith) (omega arith)

module _ (k : List ℕ) where
  -- the first i names stand before k
  abbrev pub AboveFirst : List Entry → ℕ → Type 0
  AboveFirst es zero = Unit {0}
  AboveFirst [] (suc i) = ⊥
  AboveFirst (e ∷ es) (suc i) = (order k e.name ≡ Greater) × AboveFirst es i

  -- how k stands to the i-th name, if there is one
  abbrev pub StandsAt : List Entry → ℕ → Ordering → Type 0
  StandsAt [] i r = Unit {0}
  StandsAt (e ∷ es) zero r = order k e.name ≡ r
  StandsAt (e ∷ es) (suc i) r = StandsAt es i r

  above_from : (es : List Entry) (i : ℕ) → i ≤ length es → ((j : ℕ) (d : Entry) → j < i → order (get_or es j d).name k ≡ Less) → AboveFirst es i
  above_from es zero l h = tt
  above_from [] (suc i) l h = absurd (omega arith)
  above_from (e ∷ es) (suc i) l h =
      let rest : (j : ℕ) (d : Entry) → j < i → order (get_or es j d).name k ≡ Less = λ j d m. h (suc j) d (omega arith) in
      (flipped e.name k Less (h zero e (omega arith)), above_from es i (omega arith) rest)

  stands_from : (es : List Entry) (i : ℕ) (r : Ordering) → (i < length es → (d : Entry) → order (get_or es i d).name k ≡ r) → StandsAt es i (ordering_reverse r)
  stands_from [] i r h = tt
  stands_from (e ∷ es) zero r h = flipped e.name k r (h (omega arith) e)
  stands_from (e ∷ es) (suc i) r h =
      let rest : i < length es → (d : Entry) → order (get_or es i d).name k ≡ r = λ m d. h (omega arith) d in
      stands_from es i r rest

  later : (x : List ℕ) (es : List Entry) (i : ℕ) → i < length es → StandsAt es i Equal → AllByRecursion (λ y. order x y ≡ Less) (names_of (entries_in es)) → order x k ≡ Less
  later x [] i l h a = absurd (omega arith)
  later x (e ∷ es) zero l h a = ap (order x) (tied k e.name h) ∙ a.0
  later x (e ∷ es) (suc i) l h a = later x es i (omega arith) h a.1

  above_sorted : (es : List Entry) (i : ℕ) → i < length es → StandsAt es i Equal → IsStrictlySortedBy order (names_of (entries_in es)) → AboveFirst es i
  unfolding IsStrictlySortedBy
  above_sorted [] i l h s = absurd (omega arith)
  above_sorted (e ∷ es) zero l h s = tt
  above_sorted (e ∷ es) (suc i) l h s = (flipped e.name k Less (later e.name es i (omega arith) h s.0), above_sorted es i (omega arith) h s.1)

  -- where a search ends at an entry, and where it ends between two
  pub at_entry : (es : List Entry) (i : ℕ) → IsStrictlySortedBy order (names_of (entries_in es)) → i < length es → HoldsAt (λ e. order e.name k ≡ Equal) es i → AboveFirst es i × StandsAt es i Equal
  at_entry es i s l h =
      let here : StandsAt es i Equal = stands_from es i Equal (λ m d. h d) in
      (above_sorted es i l here s, here)

  pub between : (es : List Entry) (i : ℕ) → i ≤ length es → IsPartitionPoint (λ e. order e.name k ≡ Less) (λ e. order e.name k ≡ Greater) es i → AboveFirst es i × StandsAt es i Less
  between es i l h =
      (above_from es i l (λ j d m. h.0 j d (omega arith) m), stands_from es i Greater (λ m d. h.1 i d (omega arith) m))

  skips : (e : Entry) (es : List Entry) (r : Ordering) → order k e.name ≡ r → lookup (is_at (order k)) (entries_in (e ∷ es)) ≡ cond (is_eq r) (Some (val_of e.value)) (lookup (is_at (order k)) (entries_in es))
  skips e es r h = ap (λ o. cond (is_eq o) (Some (val_of e.value)) (lookup (is_at (order k)) (entries_in es))) h

  pub value_there : (es : List Entry) (i : ℕ) (d : Entry) → i < length es → AboveFirst es i → StandsAt es i Equal → lookup (is_at (order k)) (entries_in es) ≡ Some (val_of (get_or es i d).value)
  value_there [] i d l a h = absurd (omega arith)
  value_there (e ∷ es) zero d l a h = skips e es Equal h
  value_there (e ∷ es) (suc i) d l a h = skips e es Greater a.0 ∙ value_there es i d (omega arith) a.1 h

  none_after : (es : List Entry) → AllByRecursion (λ y. order k y ≡ Less) (names_of (entries_in es)) → lookup (is_at (order k)) (entries_in es) ≡ None
  none_after [] a = refl
  none_after (e ∷ es) a = skips e es Less a.0 ∙ none_after es a.1

  all_before : (x : List ℕ) (es : List Entry) → order k x ≡ Less → AllByRecursion (λ y. order x y ≡ Less) (names_of (entries_in es)) → AllByRecursion (λ y. order k y ≡ Less) (names_of (entries_in es))
  all_before x [] h a = tt
  all_before x (e ∷ es) h a = (nat_list_cmp_total.trans k x e.name h a.0, all_before x es h a.1)

  pub no_value : (es : List Entry) (i : ℕ) → IsStrictlySortedBy order (names_of (entries_in es)) → AboveFirst es i → StandsAt es i Less → lookup (is_at (order k)) (entries_in es) ≡ None
  unfolding IsStrictlySortedBy
  no_value [] i s a h = refl
  no_value (e ∷ es) zero s a h = skips e es Less h ∙ none_after es (all_before e.name es h s.0)
  no_value (e ∷ es) (suc i) s a h = skips e es Greater a.0 ∙ no_value es i s.1 a.1 h

module _ (name : List ℕ) (bs : List (List ℕ × Val)) (es fs : List Entry) (i : ℕ) where
  pub value_at_place : (x : Entry) → entries_in fs ≡ bs → es ≡ fs → IsSortedByName (entries_in fs) → IsPlaceOf name es (Ok i) → x ≡ get_or fs i x → Some (val_of x.value) ≡ value_at name bs
  value_at_place x view same s place is =
      let place' : IsPlaceOf name fs (Ok i) = subst (λ (l : List Entry). IsPlaceOf name l (Ok i)) same place in
      let at = at_entry name fs i s place'.0 place'.1 in
      ap (λ y. Some (val_of y.value)) is ∙ sym (value_there name fs i x place'.0 at.0 at.1) ∙ ap (value_at name) view

  pub no_value_at_place : entries_in fs ≡ bs → es ≡ fs → IsSortedByName (entries_in fs) → IsPlaceOf name es (Err i) → None ≡ value_at name bs
  no_value_at_place view same s place =
      let place' : IsPlaceOf name fs (Err i) = subst (λ (l : List Entry). IsPlaceOf name l (Err i)) same place in
      let at = between name fs i place'.0 place'.1 in
      sym (no_value name fs i s at.0 at.1) ∙ ap (value_at name) view

only_less : (r : Ordering) → ordering_index r ≤ 0 → r ≡ Less
only_less Less h = refl
only_less Equal h = absurd (omega arith)
only_less Greater h = absurd (omega arith)

only_greater : (r : Ordering) → 2 ≤ ordering_index r → r ≡ Greater
only_greater Less h = absurd (omega arith)
only_greater Equal h = absurd (omega arith)
only_greater Greater h = refl

-- a step of a binary search: what stands on the other side of the middle
module _ (k : List ℕ) (es : List Entry) (s : IsStrictlySortedBy order (names_of (entries_in es))) (m : ℕ) (x : Entry) where
  middle : (d : Entry) (r : Ordering) → m < length es → x ≡ get_or es m x → order x.name k ≡ r → order (get_or es m d).name k ≡ r
  middle d r l is h = ap (λ e. order e.name k) (get_or_default es m d x l ∙ sym is) ∙ h

  pub all_below : m < length es → x ≡ get_or es m x → order x.name k ≡ Less → AllWithin (λ e. order e.name k ≡ Less) es 0 (m + 1)
  all_below l is h j d low high =
      let rise = answers_rise k es s j m d (omega arith) l in
      let here = ap ordering_index (middle d Less l is h) in
      only_less _ (omega arith)

  pub all_above : m < length es → x ≡ get_or es m x → order x.name k ≡ Greater → AllWithin (λ e. order e.name k ≡ Greater) es m (length es)
  all_above l is h j d low high =
      let rise = answers_rise k es s m j d (omega arith) high in
      let here = ap ordering_index (middle d Greater l is h) in
      only_greater _ (omega arith)

  pub holds_there : m < length es → x ≡ get_or es m x → order x.name k ≡ Equal → HoldsAt (λ e. order e.name k ≡ Equal) es m
  holds_there l is h d = middle d Equal l is h

-- a search that ends at an entry, by what the entries stand for
module _ (k : List ℕ) where
  name_seen : (es : List Entry) (i : ℕ) → i < length es → HoldsAt (λ e. order e.name k ≡ Equal) es i → HoldsAt (λ b. order b.0 k ≡ Equal) (entries_in es) i
  name_seen [] i l h d = absurd (omega arith)
  name_seen (e ∷ es) zero l h d = h e
  name_seen (e ∷ es) (suc i) l h d = name_seen es i (omega arith) h d

  name_back : (es : List Entry) (i : ℕ) → i < length es → HoldsAt (λ b. order b.0 k ≡ Equal) (entries_in es) i → HoldsAt (λ e. order e.name k ≡ Equal) es i
  name_back [] i l h d = absurd (omega arith)
  name_back (e ∷ es) zero l h d = h (entry_of e)
  name_back (e ∷ es) (suc i) l h d = name_back es i (omega arith) h d

  pub entry_at : (es : List Entry) (i : ℕ) → IsPlaceOf k es (Ok i) → IsEntryAt k (entries_in es) i
  entry_at es i p = let l : i < length es = p.0 in (omega (arith, length-map es entry_of), name_seen es i l p.1)

  pub place_at : (es : List Entry) (i : ℕ) → IsEntryAt k (entries_in es) i → IsPlaceOf k es (Ok i)
  place_at es i p = let l : i < length es = omega (arith, p.0, length-map es entry_of) in (l, name_back es i l p.1)
