-- Labels in label order that have all their dependencies among them are all that are reached from them.
use Rattle.std.proofs.Common.{◌≡◌, inl, inr, ℕ, zero, suc, List, [], ◌∷◌, Bool, true, false, ◌||◌, cond, Option, Some, None, option_map, slice_get, slice_set, replicate, Ordering, refl, sym, ◌∙◌, ap, arith}
use Rattle.std.specs.declared.cmp.Ordering.TheVariants.{Less, Equal, Greater}
use Rattle.std.specs.Ordering.{is_lt}
use Rattle.std.specs.List.{AllByRecursion}
use Rattle.std.specs.List.Sorted.{IsStrictlySortedBy}
use Rattle.std.proofs.lemmas.Bool.{and_parts}
use Rattle.gn_labels.specs.declared.label.Label.{Label}
use Rattle.gn_labels.specs.Labels.{label_order, is_before}
use Rattle.gn_dependencies.specs.Lists.{same_label as same_of_dependencies, has}
use Rattle.gn_dependencies.specs.Laws.{Reached, itself, onward}
use Rattle.gn_dependencies.proofs.Same.{own, same}
use Rattle.gn_graph_meant.specs.Laws.{ItemsAreEnough}
use Rattle.gn_items.specs.declared.item.Item.{Item}
use Rattle.gn_items.specs.Effects.{same_label, item_at}
use Rattle.gn_labelled.specs.Graphs.{shape_of, or_false}
use Rattle.gn_labelled.specs.Index.{place_of}
use Rattle.gn_labelled.specs.Listed.{same_tie}
use Rattle.gn_resolved_meant.specs.Laws.{IsClosed, AreTheReached}
use Rattle.gn_build_faults.specs.Reaching.{labels_in, targets_of}
use Rattle.gn_build_faults.specs.Settling.{dependencies_at}
use Rattle.gn_build_faults.specs.Whole.{rises_from, rises, with_mark, with_marks, has_mark, have_marks, are_closed}
use Rattle.gn_build_faults.proofs.Listed.{others_have_nothing}
use Rattle.gn_build_faults.proofs.Marked.{set_one, read_true, each}

label_is : (a b : Label) → same_label a b ≡ true → a ≡ b
label_is a b h = same a b (sym (same_tie a b) ∙ h)

-- Label order

abbrev pub IsTransitive : Type 0
IsTransitive = (default : List ℕ) → (a b c : Label) → is_before default a b ≡ true → is_before default b c ≡ true → is_before default a c ≡ true

less_is : (o : Ordering) → is_lt o ≡ true → o ≡ Less
less_is Less h = refl
less_is Equal h = absurd (cc h)
less_is Greater h = absurd (cc h)

behind : IsTransitive → (default : List ℕ) (x y : Label) (ys : List Label) → is_before default x y ≡ true → rises_from default y ys ≡ true
    → AllByRecursion (λ z. label_order default x z ≡ Less) ys
behind t default x y [] b r = tt
behind t default x y (z ∷ zs) b r =
    let p = and_parts (is_before default y z) (rises_from default z zs) r in
    let c = t default x y z b p.0 in
    (less_is (label_order default x z) c, behind t default x z zs c p.1)

sorted_from : IsTransitive → (default : List ℕ) (x : Label) (ys : List Label) → rises_from default x ys ≡ true → IsStrictlySortedBy (label_order default) (x ∷ ys)
unfolding IsStrictlySortedBy
sorted_from t default x [] r = (tt, tt)
sorted_from t default x (y ∷ ys) r =
    let p = and_parts (is_before default x y) (rises_from default y ys) r in
    ((less_is (label_order default x y) p.0, behind t default x y ys p.0 p.1), sorted_from t default y ys p.1)

sorted : IsTransitive → (default : List ℕ) (xs : List Label) → rises default xs ≡ true → IsStrictlySortedBy (label_order default) xs
unfolding IsStrictlySortedBy
sorted t default [] r = tt
sorted t default (x ∷ xs) r = sorted_from t default x xs r

-- Marks at the places of items

no_less : (r : Option ℕ) → option_map suc r ≡ Some zero → ⊥
no_less None h = cc h
no_less (Some k) h = omega (arith, some_is h)
  where
    some_is : Some (suc k) ≡ Some zero → suc k ≡ zero
    some_is e = ap (λ (o : Option ℕ). or_zero o) e
      where
        or_zero : Option ℕ → ℕ
        or_zero None = zero
        or_zero (Some n) = n

-- a place is that of one label
same_place : (q l : Label) (items : List Item) (m : ℕ) → place_of q items ≡ Some m → place_of l items ≡ Some m → q ≡ l
same_place q l [] m a b = absurd (cc a)
same_place q l (x ∷ items) m a b = by (same_place q l items) (same_label q x.label) refl (same_label l x.label) refl m a b
  where
    some_is : (i j : ℕ) → Some i ≡ Some j → i ≡ j
    some_is i j e = ap (λ (o : Option ℕ). or_zero o) e
      where
        or_zero : Option ℕ → ℕ
        or_zero None = zero
        or_zero (Some n) = n

    further : ((m : ℕ) → place_of q items ≡ Some m → place_of l items ≡ Some m → q ≡ l) → (r : Option ℕ) → place_of q items ≡ r → (s : Option ℕ) → place_of l items ≡ s
        → (m : ℕ) → option_map suc r ≡ Some m → option_map suc s ≡ Some m → q ≡ l
    further rest None e s f m a b = absurd (cc a)
    further rest (Some i) e None f m a b = absurd (cc b)
    further rest (Some i) e (Some j) f m a b = let k : i ≡ j = omega (arith, some_is (suc i) m a, some_is (suc j) m b) in rest j (e ∙ ap Some k) f

    by : ((m : ℕ) → place_of q items ≡ Some m → place_of l items ≡ Some m → q ≡ l) → (c : Bool) → same_label q x.label ≡ c → (d : Bool) → same_label l x.label ≡ d
        → (m : ℕ) → cond c (Some zero) (option_map suc (place_of q items)) ≡ Some m → cond d (Some zero) (option_map suc (place_of l items)) ≡ Some m → q ≡ l
    by rest true s true t m a b = label_is q x.label s ∙ sym (label_is l x.label t)
    by rest true s false t m a b = absurd (no_less (place_of l items) (b ∙ sym a))
    by rest false s true t m a b = absurd (no_less (place_of q items) (a ∙ sym b))
    by rest false s false t m a b = further rest (place_of q items) refl (place_of l items) refl m a b

no_true : (k n : ℕ) → slice_get (replicate k false) n ≡ Some true → ⊥
no_true zero n h = cc h
no_true (suc k) zero h = cc h
no_true (suc k) (suc n) h = no_true k n h

module _ (items : List Item) (all : List Label) where
  -- what is marked is among the labels
  AreAmong : List Bool → Type 0
  AreAmong marks = (q : Label) → has_mark marks (place_of q items) ≡ true → has all q ≡ true

  one_more : (marks : List Bool) (l : Label) → AreAmong marks → has all l ≡ true → AreAmong (with_mark marks (place_of l items))
  unfolding AreAmong
  one_more marks l are h q i = by (place_of l items) refl (place_of q items) refl i
    where
      by : (p : Option ℕ) → place_of l items ≡ p → (r : Option ℕ) → place_of q items ≡ r → has_mark (with_mark marks p) r ≡ true → has all q ≡ true
      by None e r f i = are q (ap (has_mark marks) f ∙ i)
      by (Some p) e None f i = absurd (cc i)
      by (Some p) e (Some m) f i = elim (set_one marks p m (read_true (slice_get (slice_set marks p true) m) i)) [
        | inl s ↦ ap (has all) (same_place q l items p (f ∙ ap Some s) e) ∙ h
        | inr s ↦ are q (ap (has_mark marks) f ∙ ap or_false s)
      ]

  more : (marks : List Bool) (ls : List Label) → AreAmong marks → ((d : Label) → has ls d ≡ true → has all d ≡ true) → AreAmong (with_marks items marks ls)
  more marks [] are h = are
  more marks (l ∷ ls) are h =
      more (with_mark marks (place_of l items)) ls (one_more marks l are (h l (ap (λ b. b || has ls l) (own l)))) (λ d i. h d (or_later (same_of_dependencies d l) (has ls d) i))
    where
      or_later : (a b : Bool) → b ≡ true → (a || b) ≡ true
      or_later true b e = refl
      or_later false b e = e

  nothing : (k : ℕ) → AreAmong (replicate k false)
  unfolding AreAmong
  nothing k q i = by (place_of q items) i
    where
      by : (p : Option ℕ) → has_mark (replicate k false) p ≡ true → has all q ≡ true
      by None i = absurd (cc i)
      by (Some n) i = absurd (no_true k n (read_true (slice_get (replicate k false) n) i))

  closed : (marks : List Bool) → AreAmong marks → are_closed items marks all ≡ true → IsClosed (shape_of items) all
  unfolding AreAmong
  closed marks are h u d i j =
      are d (each (λ d. has_mark marks (place_of d items)) d (dependencies_at (item_at u items)) (each (λ t. have_marks items marks (dependencies_at (item_at t items))) u all h i) j)

  reaches : IsClosed (shape_of items) all → (t q : Label) → has all t ≡ true → Reached (shape_of items) t q → has all q ≡ true
  reaches c t q h itself = h
  reaches c t q h (onward z d r e) = c z d (reaches c t z h r) e

pub whole : IsTransitive → ItemsAreEnough → AreTheReached → (default : List ℕ) (items : List Item) (k : ℕ) (labels : List Label)
    → are_closed items (with_marks items (replicate k false) labels) labels ≡ true → rises default labels ≡ true → labels ≡ targets_of default items labels
unfolding targets_of
whole t enough those default items k labels h r =
    let marks = with_marks items (replicate k false) labels in
    let c = closed items labels marks (more items labels (replicate k false) labels (nothing items labels k) (λ d i. i)) h in
    those (labels_in items) default (shape_of items) (enough (shape_of items) (labels_in items) (others_have_nothing items)) labels labels (sorted t default labels r)
    (λ q. (λ i. (q, i, itself), λ (u, i, way). reaches items labels c u q i way))
