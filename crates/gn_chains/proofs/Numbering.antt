-- The numbers of walked labels.
use Rattle.std.proofs.Common.{◌≡◌, ℕ, ◌+◌, ◌<◌, List, [], ◌∷◌, ◌++◌, length, take, get_or, Bool, true, false, cond, ◌||◌, Option, Some, None, option_map, slice_get, refl, sym, ◌∙◌, ap, subst, inl, inr, nat_eq, eq-eqb, eqb-true, arith, true≢false, Vec}
use Rattle.std.specs.declared.alloc.Global.{Global}
use Rattle.std.specs.List.{IsDistinct}
use Rattle.std.proofs.lemmas.Bool.{cases_lt}
use Rattle.std.proofs.lemmas.List.{take_more, length-append}
use Rattle.std.proofs.lemmas.Option.{slice_get_within, get_or_from_slice_get, slice_get-map, slice_get_past, slice_get_read}
use Rattle.std.proofs.lemmas.Map.Keys.{apart_from_distinct}
use Rattle.indexmap.specs.IndexSet.{insert_key}
use Rattle.gn_labels.specs.declared.label.Label.{Label}
use Rattle.gn_dependencies.specs.Lists.{same_label, has}
use Rattle.gn_dependencies.specs.Shape.{Shape, near}
use Rattle.gn_dependencies.proofs.Same.{own, same}
use Rattle.gn_dependencies.proofs.Kept.{has-append}
use Rattle.gn_dependencies.proofs.OrderLaws.{has_at, at_some}
use Rattle.gn_dependencies.proofs.OrderLaws.{within as place_within}
use Rattle.gn_chains.specs.Numbers.{among, is_label, has_some, list_of, list_at, lists_in, AreEdges}
use Rattle.gn_chains.proofs.Among.{among-push, or_false, none_twice}
use Rattle.gn_dependencies.proofs.At.{left_at, last_at, one_there}

-- no label has two places
pub same_place : (ws : List Label) → IsDistinct same_label ws → (i j : ℕ) (x : Label) → slice_get ws i ≡ Some x → slice_get ws j ≡ Some x → i ≡ j
same_place ws d i j x a b = elim (cases_lt i j) [
  | inl l ↦ absurd (apart i j l a b)
  | inr l ↦ elim (cases_lt j i) [ inl m ↦ absurd (apart j i m b a) | inr m ↦ omega (arith, l, m) ]
]
  where
    apart : (i j : ℕ) → i < j → slice_get ws i ≡ Some x → slice_get ws j ≡ Some x → ⊥
    apart i j l a b =
        let no : same_label (get_or ws i x) (get_or ws j x) ≡ false = apart_from_distinct same_label ws i j x d l (slice_get_within ws j x b) in
        let p : get_or ws i x ≡ x = get_or_from_slice_get ws i x x a in
        let q : get_or ws j x ≡ x = get_or_from_slice_get ws j x x b in
        true≢false (sym (own x) ∙ (λ k. same_label (sym p k) (sym q k)) ∙ no)

-- the label at a place is at no other
pub label_here : (ws : List Label) → IsDistinct same_label ws → (n : ℕ) (label : Label) → slice_get ws n ≡ Some label → (q : ℕ) → nat_eq q n ≡ is_label label (slice_get ws q)
label_here ws d n label e q = by (nat_eq q n) refl
  where
    other : (o : Option Label) → slice_get ws q ≡ o → nat_eq q n ≡ false → false ≡ is_label label o
    other None f h = refl
    other (Some x) f h = test (same_label x label) refl
      where
        test : (b : Bool) → same_label x label ≡ b → false ≡ b
        test false g = refl
        test true g =
            let i : q ≡ n = same_place ws d q n label (f ∙ ap Some (same x label g)) e in
            absurd (true≢false (sym (eq-eqb q n i) ∙ h))

    by : (b : Bool) → nat_eq q n ≡ b → nat_eq q n ≡ is_label label (slice_get ws q)
    by true h = h ∙ sym (ap (is_label label) (ap (slice_get ws) (eqb-true q n h) ∙ e) ∙ own label)
    by false h = h ∙ other (slice_get ws q) refl h

-- a label that isn't walked is at no place
pub no_label : (ws : List Label) (label : Label) → has ws label ≡ false → (q : ℕ) → is_label label (slice_get ws q) ≡ false
no_label ws label h q = by (slice_get ws q) refl
  where
    by : (o : Option Label) → slice_get ws q ≡ o → is_label label o ≡ false
    by None e = refl
    by (Some x) e = test (same_label x label) refl
      where
        test : (b : Bool) → same_label x label ≡ b → same_label x label ≡ false
        test false g = g
        test true g = absurd (true≢false (sym (has_at same_label own same ws q label (e ∙ ap Some (same x label g))) ∙ h))

-- one number more
pub among_put : (ns : List ℕ) (n q : ℕ) → among (insert_key nat_eq ns n) q ≡ (among ns q || nat_eq q n)
among_put ns n q = by (among ns n) refl
  where
    there : among ns n ≡ true → (b : Bool) → nat_eq q n ≡ b → among ns q ≡ (among ns q || b)
    there h true e = let k : among ns q ≡ true = ap (among ns) (eqb-true q n e) ∙ h in rw k refl
    there h false e = sym (or_false (among ns q))

    by : (b : Bool) → among ns n ≡ b → among (cond b ns (ns ++ n ∷ [])) q ≡ (among ns q || nat_eq q n)
    by true h = there h (nat_eq q n) refl
    by false h = among-push ns n q

pub number_put : (ws : List Label) → IsDistinct same_label ws → (ns new : List ℕ) (n : ℕ) (label : Label) → slice_get ws n ≡ Some label → new ≡ insert_key nat_eq ns n
    → (q : ℕ) → among new q ≡ (among ns q || is_label label (slice_get ws q))
number_put ws d ns new n label e h q = ap (λ (z : List ℕ). among z q) h ∙ among_put ns n q ∙ ap (λ b. among ns q || b) (label_here ws d n label e q)

pub nothing_put : (ws : List Label) (ns : List ℕ) (label : Label) → has ws label ≡ false → (q : ℕ) → among ns q ≡ (among ns q || is_label label (slice_get ws q))
nothing_put ws ns label h q = sym (ap (λ b. among ns q || b) (no_label ws label h q) ∙ or_false (among ns q))

-- one label more of a list
pub some_more : (labels : List Label) (i : ℕ) (x : Label) → i < length labels → x ≡ get_or labels i x → (o : Option Label) → has_some (take (i + 1) labels) o ≡ (has_some (take i labels) o || is_label x o)
some_more labels i x l e None = refl
some_more labels i x l e (Some q) =
    ap (λ (z : List Label). has z q) (take_more labels i x l ∙ ap (λ y. take i labels ++ y ∷ []) (sym e))
    ∙ has-append (take i labels) (x ∷ []) q ∙ ap (λ b. has (take i labels) q || b) (or_false (same_label q x))

pub or_assoc : (a b c : Bool) → ((a || b) || c) ≡ (a || (b || c))
or_assoc true b c = refl
or_assoc false b c = refl

pub some_append : (xs ys : List Label) (o : Option Label) → (has_some xs o || has_some ys o) ≡ has_some (xs ++ ys) o
some_append xs ys None = refl
some_append xs ys (Some q) = sym (has-append xs ys q)

-- the same behind what is known before
pub some_two : (b : Bool) (xs ys : List Label) (o : Option Label) → ((b || has_some xs o) || has_some ys o) ≡ (b || has_some (xs ++ ys) o)
some_two true xs ys o = refl
some_two false xs ys o = some_append xs ys o

-- ---- lists at numbers
pub list_here : (vs : List (Vec ℕ Global)) (i : ℕ) (v : Vec ℕ Global) → i < length vs → v ≡ get_or vs i v → list_at (lists_in vs) i ≡ v.items
list_here vs i v l e = ap list_of (slice_get-map (λ (u : Vec ℕ Global). u.items) vs i ∙ ap (option_map (λ (u : Vec ℕ Global). u.items)) (slice_get_read vs (length vs) i v refl l e))

-- the lists of the labels before a place
pub record EdgesBefore (g : Shape) (labels : List Label) (count : ℕ) (lists : List (List ℕ)) : Type 0 where
  pub sized : length lists ≡ count
  pub once : (n : ℕ) → IsDistinct nat_eq (list_at lists n)
  pub each : (n : ℕ) (z : Label) → n < count → slice_get labels n ≡ Some z → (d : ℕ) → among (list_at lists n) d ≡ has_some (near g z) (slice_get labels d)

pub no_edges : (g : Shape) (labels : List Label) → EdgesBefore g labels 0 []
no_edges g labels = record { sized = refl; once = λ n. none_twice; each = λ n z l. absurd (omega (arith, l)) }

pub edges_more : (g : Shape) (labels : List Label) (i : ℕ) (lists : List (List ℕ)) (z : Label) (ns : List ℕ) → EdgesBefore g labels i lists → slice_get labels i ≡ Some z
    → IsDistinct nat_eq ns → ((d : ℕ) → among ns d ≡ has_some (near g z) (slice_get labels d)) → EdgesBefore g labels (i + 1) (lists ++ ns ∷ [])
edges_more g labels i lists z ns s e once edges = record {
  sized = omega (arith, length-append lists (ns ∷ []), s.sized);
  once = λ n. let p = at n in subst (λ (l : List ℕ). IsDistinct nat_eq l) (sym p.1) p.2;
  each = λ n y l f d. elim (cases_lt n i) [
    | inl m ↦ ap (λ (l : List ℕ). among l d) (before n (omega (arith, m, s.sized))) ∙ s.each n y m f d
    | inr m ↦
        let k : n ≡ i = omega (arith, l, m) in
        let is : z ≡ y = one_there z y (sym e ∙ ap (slice_get labels) (sym k) ∙ f) in
        ap (λ (l : List ℕ). among l d) (ap (list_at (lists ++ ns ∷ [])) (k ∙ sym s.sized) ∙ ap list_of (last_at lists ns)) ∙ edges d ∙ ap (λ x. has_some (near g x) (slice_get labels d)) is
  ];
}
  where
    before : (n : ℕ) → n < length lists → list_at (lists ++ ns ∷ []) n ≡ list_at lists n
    before n l = let x = at_some lists n l in ap list_of (left_at lists (ns ∷ []) n x.0 x.1 ∙ sym x.1)

    at : (n : ℕ) → (l : List ℕ) × (list_at (lists ++ ns ∷ []) n ≡ l) × IsDistinct nat_eq l
    at n = elim (cases_lt n (length lists)) [
      | inl m ↦ (list_at lists n, before n m, s.once n)
      | inr m ↦ elim (cases_lt (length lists) n) [
        | inl k ↦ ([], ap list_of (slice_get_past (lists ++ ns ∷ []) n (omega (arith, k, length-append lists (ns ∷ [])))), none_twice)
        | inr k ↦ (ns, ap (list_at (lists ++ ns ∷ [])) (omega (arith, k, m)) ∙ ap list_of (last_at lists ns), once)
      ]
    ]

pub edges_all : (g : Shape) (labels : List Label) (lists : List (List ℕ)) → EdgesBefore g labels (length labels) lists → AreEdges g labels lists
edges_all g labels lists s = record {
  numbered = record {
    sized = s.sized;
    once = s.once;
    below = λ n d h. elim (cases_lt n (length labels)) [
      | inl l ↦ let z = at_some labels n l in some_place d z.0 (slice_get labels d) refl (sym (s.each n z.0 l z.1 d) ∙ h)
      | inr l ↦ absurd (nothing (ap (λ (o : Option (List ℕ)). among (list_of o) d) (sym (slice_get_past lists n (omega (arith, l, s.sized)))) ∙ h))
    ];
  };
  each = λ n z e. s.each n z (place_within labels n z e) e;
}
  where
    nothing : false ≡ true → ⊥
    nothing e = true≢false (sym e)

    some_place : (d : ℕ) (z : Label) (o : Option Label) → slice_get labels d ≡ o → has_some (near g z) o ≡ true → d < length labels
    some_place d z None e h = absurd (cc h)
    some_place d z (Some x) e h = place_within labels d x e
