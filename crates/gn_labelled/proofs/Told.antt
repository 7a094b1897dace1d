-- What is told as repeated.
use Rattle.std.proofs.Common.{◌≡◌, ◌⊎◌, inl, inr, ℕ, zero, suc, ◌<◌, List, [], ◌∷◌, ◌++◌, Bool, true, false, cond, Option, Some, None, is_some, slice_get, refl, sym, ◌∙◌, ap, arith, true≢false}
use Rattle.std.proofs.lemmas.Bool.{cases_lt}
use Rattle.gn_labels.specs.declared.label.Label.{Label}
use Rattle.gn_dependencies.proofs.At.{one_there}
use Rattle.gn_items.specs.declared.item.Item.{Item}
use Rattle.gn_items.specs.Effects.{item_at}
use Rattle.gn_labelled.specs.Index.{repeats, repeated}
use Rattle.gn_labelled.specs.Graphs.{shape_of, labels_at, kind_at}
use Rattle.gn_labelled.specs.Laws.{IsIn, IsBehind, HaveSameItems}
use Rattle.gn_labelled.proofs.Behind.{found_left, found_last, found_cases}
use Rattle.gn_labelled.proofs.Places.{finds, lacks}

-- ---- a list of items, with what stands before it
abbrev Earlier : List Item → ℕ → Label → Type 0
Earlier items i q = (j : ℕ) × (y : Item) × ((j < i) × ((slice_get items j ≡ Some y) × (y.label ≡ q)))

abbrev Because : List Item → List Item → ℕ → Label → Type 0
Because others items i q = (is_some (item_at q others) ≡ true) ⊎ Earlier items i q

abbrev Says : List Item → List Item → Item → Type 0
Says others items x = (i : ℕ) × ((slice_get items i ≡ Some x) × Because others items i x.label)

later : (x : Item) (items : List Item) (i : ℕ) (q : Label) → Earlier items i q → Earlier (x ∷ items) (suc i) q
later x items i q (j, y, (l, (a, e))) = (suc j, y, (omega (arith, l), (a, e)))

told_says : (items others : List Item) (m : Item) (k : ℕ) → slice_get (repeats others items) k ≡ Some m → Says others items m
told_says [] others m k e = absurd (cc e)
told_says (x ∷ items) others m k e = by (told_says items (others ++ x ∷ []) m) (is_some (item_at x.label others)) refl k e
  where
    shifted : (i : ℕ) → (slice_get items i ≡ Some m) × Because (others ++ x ∷ []) items i m.label → Says others (x ∷ items) m
    shifted i (a, inr w) = (suc i, (a, inr (later x items i m.label w)))
    shifted i (a, inl h) = elim (found_cases m.label others x h) [
      | inl b ↦ (suc i, (a, inl b))
      | inr b ↦ (suc i, (a, inr (0, x, (omega arith, (refl, b)))))
    ]

    by : ((k : ℕ) → slice_get (repeats (others ++ x ∷ []) items) k ≡ Some m → Says (others ++ x ∷ []) items m) → (b : Bool) → is_some (item_at x.label others) ≡ b → (k : ℕ)
        → slice_get (cond b (x ∷ repeats (others ++ x ∷ []) items) (repeats (others ++ x ∷ []) items)) k ≡ Some m → Says others (x ∷ items) m
    by onward true h zero e = (0, (e, inl (ap (λ (z : Item). is_some (item_at z.label others)) (sym (one_there x m e)) ∙ h)))
    by onward true h (suc k) e = let r = onward k e in shifted r.0 r.1
    by onward false h k e = let r = onward k e in shifted r.0 r.1

says_told : (items others : List Item) (m : Item) (i : ℕ) → slice_get items i ≡ Some m → Because others items i m.label → IsIn (repeats others items) m
says_told [] others m i a w = absurd (cc a)
says_told (x ∷ items) others m i a w = by (says_told items (others ++ x ∷ []) m) (is_some (item_at x.label others)) refl i a w
  where
    less : (i : ℕ) → Because others (x ∷ items) (suc i) m.label → Because (others ++ x ∷ []) items i m.label
    less i (inl w) = inl (found_left m.label others x w)
    less i (inr (zero, y, (l, (b, e)))) =
        inl (ap (λ (q : Label). is_some (item_at q (others ++ x ∷ []))) (sym e ∙ ap (λ (z : Item). z.label) (sym (one_there x y b))) ∙ found_last others x)
    less i (inr (suc j, y, (l, (b, e)))) = inr (j, y, (omega (arith, l), (b, e)))

    new : is_some (item_at x.label others) ≡ false → x ≡ m → Because others (x ∷ items) 0 m.label → ⊥
    new h e (inl w) = true≢false (sym w ∙ ap (λ (z : Item). is_some (item_at z.label others)) (sym e) ∙ h)
    new h e (inr (j, y, (l, b))) = omega (arith, l)

    by : ((i : ℕ) → slice_get items i ≡ Some m → Because (others ++ x ∷ []) items i m.label → IsIn (repeats (others ++ x ∷ []) items) m)
        → (b : Bool) → is_some (item_at x.label others) ≡ b → (i : ℕ) → slice_get (x ∷ items) i ≡ Some m → Because others (x ∷ items) i m.label
        → (k : ℕ) × (slice_get (cond b (x ∷ repeats (others ++ x ∷ []) items) (repeats (others ++ x ∷ []) items)) k ≡ Some m)
    by onward true h zero a w = (0, a)
    by onward true h (suc i) a w = let r = onward i a (less i w) in (suc r.0, r.1)
    by onward false h zero a w = absurd (new h (one_there x m a) w)
    by onward false h (suc i) a w = onward i a (less i w)

pub told_stands_behind : (items : List Item) (m : Item) → IsIn (repeated items) m → IsBehind items m
told_stands_behind items m (k, e) = behind (told_says items [] m k e)
  where
    behind : Says [] items m → IsBehind items m
    behind (i, (a, inl h)) = absurd (true≢false (sym h))
    behind (i, (a, inr (j, y, (l, (b, e))))) = record { place = i; here = a; earlier = j; other = y; before = l; there = b; same = e }

pub behind_is_told : (items : List Item) (m : Item) → IsBehind items m → IsIn (repeated items) m
behind_is_told items m h = says_told items [] m h.place h.here (inr (h.earlier, h.other, (h.before, (h.there, h.same))))

-- ---- items of which no label is defined twice
alone : (items : List Item) → repeated items ≡ [] → (x y : Item) → IsIn items x → IsIn items y → x.label ≡ y.label → x ≡ y
alone items none x y (i, a) (j, b) e = elim (cases_lt i j) [
  | inl l ↦ absurd (refused y (record { place = j; here = b; earlier = i; other = x; before = l; there = a; same = e }))
  | inr l ↦ elim (cases_lt j i) [
    | inl m ↦ absurd (refused x (record { place = i; here = a; earlier = j; other = y; before = m; there = b; same = sym e }))
    | inr m ↦ let s : i ≡ j = omega (arith, l, m) in one_there x y (sym a ∙ ap (slice_get items) s ∙ b)
  ]
]
  where
    refused : (z : Item) → IsBehind items z → ⊥
    refused z h = let t = behind_is_told items z h in let f : slice_get [] t.0 ≡ Some z = ap (λ (zs : List Item). slice_get zs t.0) (sym none) ∙ t.1 in cc f

pub same_finds : (xs ys : List Item) → HaveSameItems xs ys → repeated ys ≡ [] → (q : Label) → item_at q xs ≡ item_at q ys
same_finds xs ys same none q = by (item_at q xs) refl (item_at q ys) refl
  where
    by : (r : Option Item) → item_at q xs ≡ r → (s : Option Item) → item_at q ys ≡ s → r ≡ s
    by None e None f = refl
    by None e (Some y) f = let b = finds ys q y f in absurd (lacks xs q e y ((same y).1 (b.place, b.here)) b.its)
    by (Some x) e None f = let a = finds xs q x e in absurd (lacks ys q f x ((same x).0 (a.place, a.here)) a.its)
    by (Some x) e (Some y) f =
        let a = finds xs q x e in let b = finds ys q y f in
        ap Some (alone ys none x y ((same x).0 (a.place, a.here)) (b.place, b.here) (a.its ∙ sym b.its))

pub same_graph : (xs ys : List Item) → HaveSameItems xs ys → repeated ys ≡ [] → shape_of xs ≡ shape_of ys
same_graph xs ys same none = λ i. record { lists = λ q. labels_at (same_finds xs ys same none q i); kind = λ q. kind_at (same_finds xs ys same none q i) }
