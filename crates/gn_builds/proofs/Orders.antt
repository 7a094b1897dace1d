-- Things in the order of their texts, each once: which they are, and that no other list is in order that has just these.
use Rattle.std.proofs.Common.{◌≡◌, inl, inr, ℕ, List, [], ◌∷◌, map, Bool, true, false, ◌&&◌, cond, Option, Some, None, refl, sym, ◌∙◌, ap, subst, true≢false}
use Rattle.std.specs.Prelude.{T}
use Rattle.std.specs.Bool.{Decides}
use Rattle.std.specs.declared.cmp.Ordering.{Ordering}
use Rattle.std.specs.declared.cmp.Ordering.TheVariants.{Less, Equal, Greater}
use Rattle.std.specs.Ordering.{is_lt, eq_by_cmp, nat_cmp}
use Rattle.std.specs.Cmp.{IsTotalOrder, Equal-is, tied_itself}
use Rattle.std.specs.Cmp.Lexicographic.{slice_cmp, lists_total, nat_list_cmp_total}
use Rattle.std.specs.List.{AllByRecursion, IsDistinct}
use Rattle.std.specs.List.Sorted.{IsStrictlySortedBy}
use Rattle.std.specs.FinMap.{FinMap, IsAntisymmetric, get, get-entries, entries, entries_sorted, from_entries, from_sorted, entries-from_sorted, get-from_sorted, get-from_entries, same_map, slice_cmp-IsAntisymmetric, nat_cmp-IsAntisymmetric}
use Rattle.std.specs.FinMap.Entries.{find, below_all, is_sorted}
use Rattle.std.proofs.lemmas.Map.Keys.{sorted_head, sorted_tail}
use Rattle.gn_closure.specs.Closure.{In}
use Rattle.gn_projects.specs.Loaded.{in_order_by}
use Rattle.gn_builds.proofs.Members.{in_map}

abbrev Texts : Type 0
Texts = List (List ℕ)

abbrev Entry : Type 0 → Type 0
Entry A = Texts × A

abbrev texts_cmp : Texts → Texts → Ordering
texts_cmp = slice_cmp (slice_cmp nat_cmp)

texts_total : IsTotalOrder texts_cmp
texts_total = lists_total nat_list_cmp_total

texts_separate : IsAntisymmetric texts_cmp
texts_separate = slice_cmp-IsAntisymmetric (slice_cmp-IsAntisymmetric nat_cmp-IsAntisymmetric)

tied : (a b : Texts) → eq_by_cmp texts_cmp a b ≡ true → a ≡ b
tied a b e = texts_separate a b ((Equal-is (texts_cmp a b)).0 e)

tie : (a b : Texts) → a ≡ b → eq_by_cmp texts_cmp a b ≡ true
tie a b e = subst (λ z. eq_by_cmp texts_cmp a z ≡ true) e ((Equal-is (texts_cmp a a)).1 (tied_itself texts_total a))

less_is : (r : Ordering) → is_lt r ≡ true → r ≡ Less
less_is Less e = refl
less_is Equal e = absurd (true≢false (sym e))
less_is Greater e = absurd (true≢false (sym e))

less_equal : Less ≡ Equal → ⊥
less_equal e = true≢false (ap is_lt e)

both_hold : (b c : Bool) → b ≡ true → T c → T (b && c)
both_hold true c e h = h
both_hold false c e h = absurd (true≢false (sym e))

first_is : (b c : Bool) → T (b && c) → b ≡ true
first_is true c h = refl
first_is false c h = absurd h

second_holds : (b c : Bool) → T (b && c) → T c
second_holds true c h = h
second_holds false c h = absurd h

test_is : (b : Bool) → T b → b ≡ true
test_is true h = refl
test_is false h = absurd h

test_holds : (b : Bool) → b ≡ true → T b
test_holds true e = tt
test_holds false e = absurd (true≢false (sym e))

-- Entries in order

module _ {A : Type 0} where
  below_each : (k : Texts) (es : List (Entry A)) → T (below_all texts_cmp k es) → (e : Entry A) → In es e → texts_cmp k e.0 ≡ Less
  below_each k [] h e i = absurd i
  below_each k (d ∷ es) h e (inl same) = subst (λ (z : Entry A). texts_cmp k z.0 ≡ Less) same (less_is (texts_cmp k d.0) (first_is (is_lt (texts_cmp k d.0)) (below_all texts_cmp k es) h))
  below_each k (d ∷ es) h e (inr i) = below_each k es (second_holds (is_lt (texts_cmp k d.0)) (below_all texts_cmp k es) h) e i

  head_below : (d : Entry A) (es : List (Entry A)) → T (is_sorted texts_cmp (d ∷ es)) → T (below_all texts_cmp d.0 es)
  head_below d es h = test_holds (below_all texts_cmp d.0 es) (first_is (below_all texts_cmp d.0 es) (is_sorted texts_cmp es) h)

  tail_sorted : (d : Entry A) (es : List (Entry A)) → T (is_sorted texts_cmp (d ∷ es)) → T (is_sorted texts_cmp es)
  tail_sorted d es h = second_holds (below_all texts_cmp d.0 es) (is_sorted texts_cmp es) h

  -- an entry is found by its texts
  entry_found : (es : List (Entry A)) → T (is_sorted texts_cmp es) → (e : Entry A) → In es e → find texts_cmp e.0 es ≡ Some e.1
  entry_found [] s e i = absurd i
  entry_found (d ∷ es) s e (inl same) =
      ap (λ (b : Bool). cond b (Some d.1) (find texts_cmp e.0 es)) (tie e.0 d.0 (ap (λ (z : Entry A). z.0) (sym same))) ∙ ap (λ (z : Entry A). Some z.1) same
  entry_found (d ∷ es) s e (inr i) = ap (λ (b : Bool). cond b (Some d.1) (find texts_cmp e.0 es)) (apart (eq_by_cmp texts_cmp e.0 d.0) refl) ∙ entry_found es (tail_sorted d es s) e i
    where
      apart : (b : Bool) → eq_by_cmp texts_cmp e.0 d.0 ≡ b → b ≡ false
      apart false t = refl
      apart true t =
          absurd (less_equal (sym (below_each d.0 es (head_below d es s) e i) ∙ subst (λ (z : Texts). texts_cmp d.0 z ≡ Equal) (sym (tied e.0 d.0 t)) (tied_itself texts_total d.0)))

  found_entry : (q : Texts) (x : A) (es : List (Entry A)) → find texts_cmp q es ≡ Some x → In (map (λ (e : Entry A). e.1) es) x
  found_entry q x [] h = absurd (cc h)
  found_entry q x (d ∷ es) h = by (eq_by_cmp texts_cmp q d.0) h (found_entry q x es)
    where
      by : (b : Bool) → cond b (Some d.1) (find texts_cmp q es) ≡ Some x → (find texts_cmp q es ≡ Some x → In (map (λ (e : Entry A). e.1) es) x) → In (map (λ (e : Entry A). e.1) (d ∷ es)) x
      by true e ih = inl (cc e)
      by false e ih = inr (ih e)

-- Things and their texts

module _ {A : Type 0} (texts : A → Texts) where
  abbrev marked : List A → List (Entry A)
  marked xs = map (λ x. (texts x, x)) xs

  -- they differ by their texts
  abbrev pub IsExactOn : List A → Type 0
  IsExactOn xs = (x y : A) → In xs x → In xs y → texts x ≡ texts y → x ≡ y

  values_marked : (xs : List A) → map (λ (e : Entry A). e.1) (marked xs) ≡ xs
  values_marked [] = refl
  values_marked (x ∷ xs) = ap (λ (rest : List A). x ∷ rest) (values_marked xs)

  below_marked : (k : Texts) (xs : List A) → AllByRecursion (λ y. texts_cmp k y ≡ Less) (map texts xs) → T (below_all texts_cmp k (marked xs))
  below_marked k [] h = tt
  below_marked k (x ∷ xs) h = both_hold (is_lt (texts_cmp k (texts x))) (below_all texts_cmp k (marked xs)) (ap is_lt h.0) (below_marked k xs h.1)

  sorted_marked : (xs : List A) → IsStrictlySortedBy texts_cmp (map texts xs) → T (is_sorted texts_cmp (marked xs))
  sorted_marked [] h = tt
  sorted_marked (x ∷ xs) h =
      both_hold (below_all texts_cmp (texts x) (marked xs)) (is_sorted texts_cmp (marked xs))
      (test_is (below_all texts_cmp (texts x) (marked xs)) (below_marked (texts x) xs (sorted_head texts_cmp (texts x) (map texts xs) h)))
      (sorted_marked xs (sorted_tail texts_cmp (texts x) (map texts xs) h))

  found_is : (q : Texts) (x : A) (xs : List A) → find texts_cmp q (marked xs) ≡ Some x → In xs x × (texts x ≡ q)
  found_is q x [] h = absurd (cc h)
  found_is q x (y ∷ xs) h = by (eq_by_cmp texts_cmp q (texts y)) refl h (found_is q x xs)
    where
      by : (b : Bool) → eq_by_cmp texts_cmp q (texts y) ≡ b → cond b (Some y) (find texts_cmp q (marked xs)) ≡ Some x → (find texts_cmp q (marked xs) ≡ Some x → In xs x × (texts x ≡ q)) → In (y ∷ xs) x × (texts x ≡ q)
      by true t e ih = let same : y ≡ x = cc e in (inl same, ap texts (sym same) ∙ sym (tied q (texts y) t))
      by false t e ih = let m = ih e in (inr m.0, m.1)

  is_found : (x : A) (xs : List A) → In xs x → (y : A) × (find texts_cmp (texts x) (marked xs) ≡ Some y)
  is_found x [] i = absurd i
  is_found x (z ∷ xs) (inl e) = (z, ap (λ (b : Bool). cond b (Some z) (find texts_cmp (texts x) (marked xs))) (tie (texts x) (texts z) (ap texts (sym e))))
  is_found x (z ∷ xs) (inr i) = by (eq_by_cmp texts_cmp (texts x) (texts z)) (is_found x xs i)
    where
      by : (b : Bool) → (y : A) × (find texts_cmp (texts x) (marked xs) ≡ Some y) → (y : A) × (cond b (Some z) (find texts_cmp (texts x) (marked xs)) ≡ Some y)
      by true m = (z, refl)
      by false m = m

  find_exact : (xs : List A) → IsExactOn xs → (x : A) → In xs x → find texts_cmp (texts x) (marked xs) ≡ Some x
  find_exact xs exact x i =
      let m = is_found x xs i in
      let f = found_is (texts x) m.0 xs m.1 in
      m.1 ∙ ap Some (exact m.0 x f.0 i f.1)

  -- Which they are

  abbrev in_entries : List A → List (Entry A)
  in_entries xs = entries (from_entries {R = texts_cmp} (marked xs))

  entry_is : (xs : List A) (e : Entry A) → In (in_entries xs) e → In xs e.1 × (texts e.1 ≡ e.0)
  entry_is xs e i =
      found_is e.0 e.1 xs
      (sym (get-from_entries texts_total (marked xs) e.0) ∙ get-entries (from_entries {R = texts_cmp} (marked xs)) e.0 ∙ entry_found (in_entries xs) (entries_sorted (from_entries {R = texts_cmp} (marked xs))) e i)

  pub ordered_in : (xs : List A) (x : A) → In (in_order_by texts xs) x → In xs x
  ordered_in xs x i = let m = in_map (λ (e : Entry A). e.1) (in_entries xs) x i in subst (In xs) m.2 (entry_is xs m.0 m.1).0

  pub in_ordered : (xs : List A) → IsExactOn xs → (x : A) → In xs x → In (in_order_by texts xs) x
  in_ordered xs exact x i =
      found_entry (texts x) x (in_entries xs)
      (sym (get-entries (from_entries {R = texts_cmp} (marked xs)) (texts x)) ∙ get-from_entries texts_total (marked xs) (texts x) ∙ find_exact xs exact x i)

  -- each stands once
  module _ (same : A → A → Bool) (tested : (a b : A) → Decides (same a b) (a ≡ b)) where
    entries_apart : (d : Entry A) (es : List (Entry A)) → T (below_all texts_cmp d.0 es) → texts d.1 ≡ d.0 → ((e : Entry A) → In es e → texts e.1 ≡ e.0)
        → AllByRecursion (λ y. same d.1 y ≡ false) (map (λ (e : Entry A). e.1) es)
    entries_apart d [] h own others = tt
    entries_apart d (e ∷ es) h own others =
        (differ (same d.1 e.1) refl, entries_apart d es (second_holds (is_lt (texts_cmp d.0 e.0)) (below_all texts_cmp d.0 es) h) own (λ c i. others c (inr i)))
      where
        differ : (b : Bool) → same d.1 e.1 ≡ b → b ≡ false
        differ false s = refl
        differ true s =
            let keys : d.0 ≡ e.0 = sym own ∙ ap texts ((tested d.1 e.1).0 s) ∙ others e (inl refl) in
            absurd (less_equal (sym (below_each d.0 (e ∷ es) h e (inl refl)) ∙ subst (λ (z : Texts). texts_cmp d.0 z ≡ Equal) keys (tied_itself texts_total d.0)))

    distinct_entries : (es : List (Entry A)) → T (is_sorted texts_cmp es) → ((e : Entry A) → In es e → texts e.1 ≡ e.0) → IsDistinct same (map (λ (e : Entry A). e.1) es)
    unfolding IsDistinct
    distinct_entries [] s own = tt
    distinct_entries (e ∷ es) s own =
        (entries_apart e es (head_below e es s) (own e (inl refl)) (λ c i. own c (inr i)), distinct_entries es (tail_sorted e es s) (λ c i. own c (inr i)))

    pub ordered_distinct : (xs : List A) → IsDistinct same (in_order_by texts xs)
    ordered_distinct xs = distinct_entries (in_entries xs) (entries_sorted (from_entries {R = texts_cmp} (marked xs))) (λ e i. (entry_is xs e i).1)

  -- A list in order that has these and no others is these in their order

  same_found : (xs ys : List A) → IsExactOn xs → ((x : A) → In ys x → In xs x) → ((x : A) → In xs x → In ys x) → (q : Texts) → find texts_cmp q (marked ys) ≡ find texts_cmp q (marked xs)
  same_found xs ys exact f g q = by (find texts_cmp q (marked ys)) refl (find texts_cmp q (marked xs)) refl
    where
      missed : (zs : List A) (x : A) → In zs x → texts x ≡ q → find texts_cmp q (marked zs) ≡ None → ⊥
      missed zs x i t none =
          let m = is_found x zs i in
          let there : find texts_cmp q (marked zs) ≡ Some m.0 = subst (λ (z : Texts). find texts_cmp z (marked zs) ≡ Some m.0) t m.1 in
          absurd (cc (sym none ∙ there))

      by : (a : Option A) → find texts_cmp q (marked ys) ≡ a → (b : Option A) → find texts_cmp q (marked xs) ≡ b → a ≡ b
      by None e None h = refl
      by None e (Some x) h = let m = found_is q x xs h in absurd (missed ys x (g x m.0) m.1 e)
      by (Some y) e None h = let m = found_is q y ys e in absurd (missed xs y (f y m.0) m.1 h)
      by (Some y) e (Some x) h =
          let m = found_is q y ys e in
          let n = found_is q x xs h in
          ap Some (exact y x (f y m.0) n.0 (m.1 ∙ sym n.1))

  pub in_order_same : (xs ys : List A) → IsExactOn xs → IsStrictlySortedBy texts_cmp (map texts ys) → ((x : A) → In ys x → In xs x) → ((x : A) → In xs x → In ys x) → ys ≡ in_order_by texts xs
  in_order_same xs ys exact s f g =
      sym (values_marked ys)
      ∙ ap (map (λ (e : Entry A). e.1)) (sym (entries-from_sorted texts_cmp (marked ys) (sorted_marked ys s)))
      ∙ ap (λ (m : FinMap texts_cmp A). map (λ (e : Entry A). e.1) (entries m)) same
    where
      each : (q : Texts) → get (from_sorted {R = texts_cmp} (marked ys)) q ≡ get (from_entries {R = texts_cmp} (marked xs)) q
      each q = get-from_sorted texts_cmp (marked ys) q (sorted_marked ys s) ∙ same_found xs ys exact f g q ∙ sym (get-from_entries texts_total (marked xs) q)

      same : from_sorted {R = texts_cmp} (marked ys) ≡ from_entries {R = texts_cmp} (marked xs)
      same = same_map texts_total texts_separate (from_sorted {R = texts_cmp} (marked ys)) (from_entries {R = texts_cmp} (marked xs)) each
