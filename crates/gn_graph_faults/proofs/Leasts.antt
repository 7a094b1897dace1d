-- The first fault of the first target that has one.
use Rattle.std.proofs.Common.{◌≡◌, ◌↔◌, inl, inr, ℕ, zero, suc, ◌<◌, ◌≤◌, List, [], ◌∷◌, length, map, slice_get, Option, Some, None, true, false, Ordering, sym, ◌∙◌, ap, subst, arith, MatchOption}
use Rattle.std.specs.declared.cmp.Ordering.TheVariants.{Less, Greater}
use Rattle.std.specs.Ordering.{is_lt, ordering_then, ordering_reverse}
use Rattle.std.specs.Cmp.{IsTotalOrder, tied_itself}
use Rattle.std.specs.List.{Contains}
use Rattle.std.specs.List.Sorted.{IsStrictlySortedBy}
use Rattle.std.proofs.lemmas.Bool.{cases_lt}
use Rattle.gn_labels.specs.declared.label.Label.{Label}
use Rattle.gn_labels.specs.Labels.{label_order}
use Rattle.gn_faults.specs.declared.fault.Fault.{Fault}
use Rattle.gn_dependencies.specs.Lists.{same_label, has}
use Rattle.gn_dependencies.proofs.Same.{own, same}
use Rattle.gn_dependencies.proofs.OrderLaws.{place_of, has_at, within}
use Rattle.gn_dependencies.proofs.At.{one_there}
use Rattle.gn_graph_faults.specs.Faults.{Facts, HasFault, Finding, told_of, finding_order, AreFaults}
use Rattle.gn_graph_faults.specs.Least.{IsFaultless, IsFirstFault}
use Rattle.gn_graph_faults.specs.Laws.{fault_order, IsLeastOf}
use Rattle.gn_graph_faults.proofs.Sorting.{contains_first, contains_nothing, contains_cases, comes_behind, sorted_rest}
use Rattle.gn_graph_faults.proofs.Ordered.{labels_total, findings_total, has_contains}

-- ---- the first of a list of faults
none_told : (g : Facts) (t : Label) (faults : List Fault) → AreFaults g t faults → faults ≡ [] → IsFaultless g t
none_told g t faults a e code others h = by a.findings (a.told) ((a.each (record { code = code; others = others })).1 h)
  where
    by : (fs : List Finding) → faults ≡ map (told_of g t) fs → Contains fs (record { code = code; others = others }) → ⊥
    by [] k c = contains_nothing (record { code = code; others = others }) c
    by (f ∷ fs) k c = let z : [] ≡ told_of g t f ∷ map (told_of g t) fs = sym e ∙ k in cc z

-- ---- in which order targets stand
module _ (default : List ℕ) where
  comes_later : (ts : List Label) → IsStrictlySortedBy (label_order default) ts → (i j : ℕ) (t u : Label) → slice_get ts i ≡ Some t → slice_get ts j ≡ Some u → i < j → label_order default t u ≡ Less
  comes_later [] s i j t u a b l = absurd (cc a)
  comes_later (x ∷ ts) s i zero t u a b l = absurd (omega (arith, l))
  comes_later (x ∷ ts) s zero (suc j) t u a b l =
      let e : x ≡ t = one_there x t a in
      subst (λ (z : Label). label_order default z u ≡ Less) e (comes_behind (label_order default) x ts s u (has_contains ts u (has_at same_label own same ts j u b)))
  comes_later (x ∷ ts) s (suc i) (suc j) t u a b l = comes_later ts (sorted_rest (label_order default) x ts s) i j t u a b (omega (arith, l))

-- what comes behind comes not before
not_before : {A : Type 0} (R : A → A → Ordering) → IsTotalOrder R → (x y : A) → R x y ≡ Less → R y x ≡ Greater
not_before R o x y e = o.antisymm y x ∙ ap ordering_reverse e

module _ (g : Facts) (ts : List Label) (sorted : IsStrictlySortedBy (label_order g.default) ts) (place : ℕ) (t : Label) (here : slice_get ts place ≡ Some t)
    (before : (k : ℕ) (q : Label) → k < place → slice_get ts k ≡ Some q → IsFaultless g q) (f : Finding) (fs : List Finding) (rises : IsStrictlySortedBy (finding_order g.default) (f ∷ fs))
    (each : (h : Finding) → Contains (f ∷ fs) h ↔ HasFault g t h.code h.others) where
  same_target : (h : Finding) → HasFault g t h.code h.others → is_lt (finding_order g.default h f) ≡ false
  same_target h k = elim (contains_cases f fs h ((each h).1 k)) [
    | inl e ↦ ap is_lt (ap (λ (z : Finding). finding_order g.default z f) (sym e) ∙ tied_itself (findings_total g.default) f)
    | inr c ↦ ap is_lt (not_before (finding_order g.default) (findings_total g.default) f h (comes_behind (finding_order g.default) f fs rises h c))
  ]

  none_before : (q : Label) (h : Finding) → has ts q ≡ true → HasFault g q h.code h.others → is_lt (fault_order g.default q h t f) ≡ false
  none_before q h i k =
      let p = place_of same_label own same q ts i in
      elim (cases_lt p.0 place) [
        | inl l ↦ absurd (before p.0 q l p.1 h.code h.others k)
        | inr m ↦ elim (cases_lt place p.0) [
          | inl l ↦ ap (λ o. is_lt (ordering_then o (finding_order g.default h f)))
              (not_before (label_order g.default) (labels_total g.default) t q (comes_later g.default ts sorted place p.0 t q here p.1 l))
          | inr n ↦
              let i : p.0 ≡ place = omega (arith, m, n) in
              let e : q ≡ t = one_there q t (sym p.1 ∙ ap (slice_get ts) i ∙ here) in
              ap (λ o. is_lt (ordering_then o (finding_order g.default h f))) (ap (λ (z : Label). label_order g.default z t) e ∙ tied_itself (labels_total g.default) t)
              ∙ same_target h (subst (λ (z : Label). HasFault g z h.code h.others) e k)
        ]
      ]

pub first_is_least : (g : Facts) (ts : List Label) (fault : Fault) → IsStrictlySortedBy (label_order g.default) ts → IsFirstFault g ts fault → IsLeastOf g ts fault
first_is_least g ts fault sorted first = by first.faults.findings first.faults.rises first.faults.each first.faults.told
  where
    by : (fs : List Finding) → IsStrictlySortedBy (finding_order g.default) fs → ((h : Finding) → Contains fs h ↔ HasFault g first.target h.code h.others)
        → fault ∷ first.rest ≡ map (told_of g first.target) fs → IsLeastOf g ts fault
    by [] r e k = absurd (cc k)
    by (f ∷ fs) r e k = record {
      target = first.target;
      finding = f;
      is = cc k;
      inside = has_at same_label own same ts first.place first.target first.here;
      holds = (e f).0 (contains_first f fs);
      least = none_before g ts sorted first.place first.target first.here first.before f fs r e;
    }

-- ---- a loop over targets
module _ (g : Facts) (ts : List Label) where
  -- all of them were looked at
  pub none_has : (n : ℕ) → length ts ≤ n → ((k : ℕ) (q : Label) → k < n → slice_get ts k ≡ Some q → IsFaultless g q) → (q : Label) → has ts q ≡ true → IsFaultless g q
  none_has n l h q i = let p = place_of same_label own same q ts i in let m = within ts p.0 q p.1 in h p.0 q (omega (arith, l, m)) p.1

pub first_told : (g : Facts) (t : Label) (faults : List Fault) → AreFaults g t faults → (first : Option Fault)
    → MatchOption first (faults ≡ []) (λ fault. (rest : List Fault) × (faults ≡ fault ∷ rest)) → MatchOption first (IsFaultless g t) (λ fault. (rest : List Fault) × AreFaults g t (fault ∷ rest))
first_told g t faults a None e = none_told g t faults a e
first_told g t faults a (Some fault) e = (e.0, subst (AreFaults g t) e.1 a)
