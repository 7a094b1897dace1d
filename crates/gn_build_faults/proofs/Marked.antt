-- Marks at the places of items that reach no cycle.
use Rattle.std.proofs.Common.{◌≡◌, ◌⊎◌, inl, inr, ℕ, zero, suc, ◌≤◌, List, [], ◌∷◌, ◌++◌, Bool, true, false, ◌||◌, ◌&&◌, Option, Some, None, option_map, cond, slice_get, slice_set, length, take, replicate, refl, sym, ◌∙◌, ap, subst, arith}
use Rattle.std.specs.List.{list_all}
use Rattle.std.proofs.lemmas.Bool.{and_parts}
use Rattle.gn_labels.specs.declared.label.Label.{Label}
use Rattle.gn_dependencies.specs.Lists.{same_label, has}
use Rattle.gn_dependencies.specs.Shape.{EndsWithin}
use Rattle.gn_dependencies.proofs.Same.{same}
use Rattle.gn_dependencies.proofs.Merge.{common_depth}
use Rattle.gn_items.specs.declared.item.Item.{Item}
use Rattle.gn_items.specs.Effects.{same_label as is_its_label, item_at}
use Rattle.gn_labelled.specs.Graphs.{shape_of, or_false}
use Rattle.gn_labelled.specs.Index.{place_of, item_in}
use Rattle.gn_cycles.specs.Settled.{AreSettled}
use Rattle.gn_build_faults.specs.Settling.{is_marked, is_settled, dependencies_at, AreMarked}

-- the item at the place of a label is the first that has it
pub placed : (q : Label) (items : List Item) → item_in items (place_of q items) ≡ item_at q items
placed q [] = refl
placed q (x ∷ items) = by (is_its_label q x.label) (place_of q items) (placed q items)
  where
    by : (b : Bool) (r : Option ℕ) → item_in items r ≡ item_at q items → item_in (x ∷ items) (cond b (Some zero) (option_map suc r)) ≡ cond b (Some x) (item_at q items)
    by true r e = refl
    by false None e = e
    by false (Some n) e = e

-- a mark that stands where one more was set
pub set_one : (marks : List Bool) (place n : ℕ) → slice_get (slice_set marks place true) n ≡ Some true → (n ≡ place) ⊎ (slice_get marks n ≡ Some true)
set_one [] place n h = inr h
set_one (x ∷ marks) zero zero h = inl refl
set_one (x ∷ marks) zero (suc n) h = inr h
set_one (x ∷ marks) (suc place) zero h = inr h
set_one (x ∷ marks) (suc place) (suc n) h = elim (set_one marks place n h) [ inl e ↦ inl (ap suc e) | inr i ↦ inr i ]

-- no mark is set past the end
pub set_past : (marks : List Bool) (place : ℕ) → length marks ≤ place → marks ≡ slice_set marks place true
set_past [] place h = refl
set_past (x ∷ marks) zero h = absurd (omega (arith, h))
set_past (x ∷ marks) (suc place) h = ap (λ (bs : List Bool). x ∷ bs) (set_past marks place (omega (arith, h)))

pub read_true : (b : Option Bool) → or_false b ≡ true → b ≡ Some true
read_true None h = absurd (cc h)
read_true (Some true) h = refl
read_true (Some false) h = absurd (cc h)

all_by : (p : Label → Bool) (d x : Label) (xs : List Label) (b : Bool) → same_label d x ≡ b → (p x && list_all p xs) ≡ true → (b || has xs d) ≡ true
    → (list_all p xs ≡ true → has xs d ≡ true → p d ≡ true) → p d ≡ true
all_by p d x xs true e a h onward = let s : d ≡ x = same d x e in ap p s ∙ (and_parts (p x) (list_all p xs) a).0
all_by p d x xs false e a h onward = onward (and_parts (p x) (list_all p xs) a).1 h

pub each : (p : Label → Bool) (d : Label) (xs : List Label) → list_all p xs ≡ true → has xs d ≡ true → p d ≡ true
each p d [] a h = absurd (cc h)
each p d (x ∷ xs) a h = all_by p d x xs (same_label d x) refl a h (each p d xs)

module _ (items : List Item) where
  -- what no item has reaches nothing
  ends_at_once : (q : Label) → place_of q items ≡ None → EndsWithin (shape_of items) 1 q
  ends_at_once q h d i =
      let none : item_at q items ≡ None = sym (placed q items) ∙ ap (λ (p : Option ℕ). item_in items p) h in
      absurd (nothing (item_at q items) none d i)
    where
      nothing : (item : Option Item) → item ≡ None → (d : Label) → has (dependencies_at item) d ≡ true → ⊥
      nothing None e d h = cc h
      nothing (Some x) e d h = cc e

  bounded : (marks : List Bool) (item : Option Item) → AreMarked items marks → list_all (λ d. is_settled items marks d) (dependencies_at item) ≡ true
      → (q : Label) → item_at q items ≡ item → (n : ℕ) × EndsWithin (shape_of items) n q
  bounded marks item are all q e =
      let r = common_depth (shape_of items) (dependencies_at (item_at q items))
      (λ d i. are d (each (λ d. is_settled items marks d) d (dependencies_at (item_at q items)) (ap (λ (x : Option Item). list_all (λ d. is_settled items marks d) (dependencies_at x)) e ∙ all) i)) in
      (suc r.0, r.1)

  -- one more mark, at the place of an item whose dependencies are marked
  pub marked_more : (marks new : List Bool) (place : ℕ) (item : Option Item) → AreMarked items marks → item ≡ item_in items (Some place)
      → list_all (λ d. is_settled items marks d) (dependencies_at item) ≡ true
      → new ≡ slice_set marks place true → AreMarked items new
  marked_more marks new place item are is all n q h = by (place_of q items) refl h
    where
      set : (m : ℕ) → slice_get new m ≡ Some true → (m ≡ place) ⊎ (slice_get marks m ≡ Some true)
      set m h = set_one marks place m (ap (λ (bs : List Bool). slice_get bs m) (sym n) ∙ h)

      by : (p : Option ℕ) → place_of q items ≡ p → is_marked new p ≡ true → (n : ℕ) × EndsWithin (shape_of items) n q
      by None e h = (1, ends_at_once q e)
      by (Some m) e h = elim (set m (read_true (slice_get new m) h)) [
        | inl here ↦ bounded marks item are all q
            (sym (placed q items) ∙ ap (λ (p : Option ℕ). item_in items p) (e ∙ ap Some here) ∙ sym is)
        | inr there ↦ are q (ap (is_marked marks) e ∙ ap or_false there)
      ]

  -- no marks
  no_true : (k n : ℕ) → slice_get (replicate k false) n ≡ Some true → ⊥
  no_true zero n h = cc h
  no_true (suc k) zero h = cc h
  no_true (suc k) (suc n) h = no_true k n h

  pub none_marked : (marks : List Bool) (k : ℕ) → marks ≡ replicate k false → AreMarked items marks
  none_marked marks k e q h = by (place_of q items) refl h
    where
      by : (p : Option ℕ) → place_of q items ≡ p → is_marked marks p ≡ true → (n : ℕ) × EndsWithin (shape_of items) n q
      by None e h = (1, ends_at_once q e)
      by (Some n) f h = absurd (no_true k n (ap (λ (bs : List Bool). slice_get bs n) (sym e) ∙ read_true (slice_get marks n) h))

  one_there : (t q : Label) → has (t ∷ []) q ≡ true → q ≡ t
  one_there t q h = by (same_label q t) refl h
    where
      by : (b : Bool) → same_label q t ≡ b → (b || false) ≡ true → q ≡ t
      by true e h = same q t e
      by false e h = absurd (cc h)

  -- the label of a marked item alone
  pub alone_marked : (marks : List Bool) (t : Label) (labels : List Label) → AreMarked items marks → is_settled items marks t ≡ true → labels ≡ t ∷ []
      → AreSettled (shape_of items) labels
  alone_marked marks t labels are is e =
      subst (AreSettled (shape_of items)) (sym e) (λ q i. subst (λ (z : Label). (n : ℕ) × EndsWithin (shape_of items) n z) (sym (one_there t q i)) (are t is))

pub none_is_settled : (items : List Item) (labels : List Label) → labels ≡ [] → AreSettled (shape_of items) labels
none_is_settled items labels e = subst (AreSettled (shape_of items)) (sym e) (λ q i. absurd (cc i))

-- what is made of no marks by so many more
pub none_made : (xs ys : List Bool) (n m : ℕ) → xs ≡ [] → ys ≡ take n xs ++ replicate m false → (k : ℕ) × (ys ≡ replicate k false)
none_made [] ys zero m e h = (m, h)
none_made [] ys (suc n) m e h = (m, h)
none_made (x ∷ xs) ys n m e h = absurd (cc e)
