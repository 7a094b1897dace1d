-- The faults of one more code are told.
use Rattle.std.proofs.Common.{◌≡◌, ◌↔◌, inl, inr, ℕ, ◌+◌, ◌<◌, ◌≤◌, List, [], ◌∷◌, ◌++◌, map, Some, None, true, Ordering, Result, OnOk, sym, ◌∙◌, ap, subst, arith}
use Rattle.std.specs.declared.cmp.Ordering.TheVariants.{Less, Equal}
use Rattle.std.specs.Ordering.{nat_cmp, ordering_then}
use Rattle.std.specs.Cmp.{tied_itself, nat_cmp_total}
use Rattle.std.specs.Cmp.Lexicographic.{slice_cmp}
use Rattle.std.specs.List.{Contains}
use Rattle.std.specs.List.Sorted.{IsStrictlySortedBy}
use Rattle.std.proofs.lemmas.Bool.{cases_lt}
use Rattle.std.proofs.lemmas.Bool.Decides.{nat_tests}
use Rattle.std.proofs.lemmas.List.Elements.{Contains-append_left, Contains-append_right, Contains-append_cases}
use Rattle.std.proofs.lemmas.List.{map-append, append-nil}
use Rattle.std.proofs.lemmas.Simd.{map-map}
use Rattle.std.proofs.lemmas.Result.{on_ok_weaker}
use Rattle.gn_labels.specs.declared.label.Label.{Label}
use Rattle.gn_labels.specs.Labels.{label_order}
use Rattle.gn_faults.specs.declared.code.Code.{Code}
use Rattle.gn_faults.specs.declared.code.Code.TheVariants.{Unresolved, WrongKind, Cycle, Invisible, TestOnly, AssertNoDeps}
use Rattle.gn_faults.specs.declared.fault.Fault.{Fault}
use Rattle.gn_faults.specs.Numbers.{code_number}
use Rattle.gn_dependencies.specs.Lists.{has}
use Rattle.gn_dependencies.specs.Shape.{all_deps}
use Rattle.gn_cycles.specs.Shortest.{IsShortest, IsShortestCycle}
use Rattle.gn_graph_faults.specs.Order.{AreInOrder}
use Rattle.gn_graph_faults.specs.Faults.{Facts, HasFault, Finding, finding, told_of, fault_told, finding_order, AreFaults, names_nothing, depends_on_another, applies_another, pools_another, lies_on_cycle, depends_on_hidden, applies_hidden, depends_on_tests, reaches_forbidden}
use Rattle.gn_graph_faults.specs.Told.{AreBelow, TellsMore, AreFaulty}
use Rattle.gn_graph_faults.proofs.Sorting.{contains_first, contains_nothing, contains_cases, contains_mapped, mapped_contains, sorted_nothing, sorted_one, sorted_joined, sorted_mapped}
use Rattle.gn_graph_faults.proofs.Ordered.{has_contains, contains_has}

-- codes with one number are one code
abbrev pub HaveNumbers : Type 0
HaveNumbers = (a b : Code) → code_number a ≡ code_number b → a ≡ b

below_less : (a b : ℕ) → a < b → nat_cmp a b ≡ Less
below_less a b l = grind (arith, nat_tests, l)

then_less : (r s : Ordering) → r ≡ Less → ordering_then r s ≡ Less
then_less r s e = ap (λ o. ordering_then o s) e

then_second : (r s : Ordering) → r ≡ Equal → ordering_then r s ≡ s
then_second r s e = ap (λ o. ordering_then o s) e

module _ (numbers : HaveNumbers) (g : Facts) (t : Label) (code : Code) where
  module _ (ps : List (List Label)) (rises : IsStrictlySortedBy (slice_cmp (label_order g.default)) ps) (each : (others : List Label) → Contains ps others ↔ HasFault g t code others)
      (old new : List Fault) (e : new ≡ old ++ map (λ others. fault_told g.default (g.places t) t code others) ps) (b : AreBelow g t (code_number code) old) where
    -- the new ones stand behind the others
    behind : (x y : Finding) → Contains b.findings x → Contains (map (finding code) ps) y → finding_order g.default x y ≡ Less
    behind x y c d =
        let m = mapped_contains (finding code) ps y d in
        let l : code_number x.code < code_number code = ((b.each x).0 c).1 in
        subst (λ (z : Finding). finding_order g.default x z ≡ Less) m.2 (then_less (nat_cmp (code_number x.code) (code_number code)) (slice_cmp (label_order g.default) x.others m.0) (below_less (code_number x.code) (code_number code) l))

    in_own : (p q : List Label) → slice_cmp (label_order g.default) p q ≡ Less → finding_order g.default (finding code p) (finding code q) ≡ Less
    in_own p q h = then_second (nat_cmp (code_number code) (code_number code)) (slice_cmp (label_order g.default) p q) (tied_itself nat_cmp_total (code_number code)) ∙ h

    to : (f : Finding) → Contains (b.findings ++ map (finding code) ps) f → HasFault g t f.code f.others × (code_number f.code < code_number code + 1)
    to f c = elim (Contains-append_cases b.findings (map (finding code) ps) f c) [
      | inl d ↦ let r = (b.each f).0 d in (r.0, omega (arith, r.1))
      | inr d ↦
          let m = mapped_contains (finding code) ps f d in
          subst (λ (z : Finding). HasFault g t z.code z.others × (code_number z.code < code_number code + 1)) m.2 ((each m.0).0 m.1, omega arith)
    ]

    same_code : (f : Finding) → code_number f.code ≡ code_number code → HasFault g t f.code f.others → Contains (map (finding code) ps) f
    same_code f n h =
        let s : f.code ≡ code = numbers f.code code n in
        let c : Contains ps f.others = (each f.others).1 (subst (λ (z : Code). HasFault g t z f.others) s h) in
        subst (λ (z : Finding). Contains (map (finding code) ps) z) (λ i. record { code = sym s i; others = f.others }) (contains_mapped (finding code) ps f.others c)

    back : (f : Finding) → HasFault g t f.code f.others × (code_number f.code < code_number code + 1) → Contains (b.findings ++ map (finding code) ps) f
    back f h = elim (cases_lt (code_number f.code) (code_number code)) [
      | inl l ↦ Contains-append_left b.findings (map (finding code) ps) f ((b.each f).1 (h.0, l))
      | inr l ↦ Contains-append_right b.findings (map (finding code) ps) f (same_code f (omega (arith, l, h.1)) h.0)
    ]

    pub more : AreBelow g t (code_number code + 1) new
    more = record {
      findings = b.findings ++ map (finding code) ps;
      rises = sorted_joined (finding_order g.default) b.findings (map (finding code) ps) b.rises
          (sorted_mapped (finding code) (slice_cmp (label_order g.default)) (finding_order g.default) in_own ps rises) behind;
      each = λ f. (to f, back f);
      told = e ∙ ap (λ (z : List Fault). z ++ map (λ others. fault_told g.default (g.places t) t code others) ps) b.told
          ∙ ap (λ (z : List Fault). map (told_of g t) b.findings ++ z) (sym (map-map (told_of g t) (finding code) ps))
          ∙ sym (map-append (told_of g t) b.findings (map (finding code) ps));
    }

  single_less : (x y : Label) → label_order g.default x y ≡ Less → slice_cmp (label_order g.default) (x ∷ []) (y ∷ []) ≡ Less
  single_less x y h = then_less (label_order g.default x y) Equal h

  -- for each of the labels for which there is a fault
  pub more_labels : (xs ys : List Label) → AreFaulty g t code xs → AreInOrder g.default xs ys → (old new : List Fault)
      → new ≡ old ++ map (λ label. fault_told g.default (g.places t) t code (label ∷ [])) ys → TellsMore g t code old new
  more_labels xs ys faulty order old new e = more (map (λ (d : Label). d ∷ []) ys)
      (sorted_mapped (λ (d : Label). d ∷ []) (label_order g.default) (slice_cmp (label_order g.default)) single_less ys order.rises) (λ others. (listed others, told others)) old new
      (e ∙ ap (λ (z : List Fault). old ++ z) (sym (map-map (λ others. fault_told g.default (g.places t) t code others) (λ (d : Label). d ∷ []) ys)))
    where
      listed : (others : List Label) → Contains (map (λ (d : Label). d ∷ []) ys) others → HasFault g t code others
      listed others c =
          let m = mapped_contains (λ (d : Label). d ∷ []) ys others c in
          subst (HasFault g t code) m.2 ((faulty.each m.0).0 (sym (order.same m.0) ∙ contains_has ys m.0 m.1))

      told : (others : List Label) → HasFault g t code others → Contains (map (λ (d : Label). d ∷ []) ys) others
      told others h =
          let d = faulty.alone others h in
          let k : has xs d.0 ≡ true = (faulty.each d.0).1 (subst (HasFault g t code) d.1 h) in
          subst (λ (z : List Label). Contains (map (λ (d : Label). d ∷ []) ys) z) (sym d.1) (contains_mapped (λ (d : Label). d ∷ []) ys d.0 (has_contains ys d.0 (order.same d.0 ∙ k)))

-- ---- cycles
module _ (numbers : HaveNumbers) (g : Facts) (t : Label) where
  on_a_cycle : (p : List Label) → HasFault g t Cycle p → IsShortest (all_deps g.shape) t t p
  on_a_cycle p (lies_on_cycle _ s) = s

  -- no fault of the code, which is told by none
  pub no_more : (code : Code) → ((others : List Label) → HasFault g t code others → ⊥) → (old new : List Fault) → new ≡ old → TellsMore g t code old new
  no_more code none old new e =
      more numbers g t code [] (sorted_nothing (slice_cmp (label_order g.default))) (λ others. (λ c. absurd (contains_nothing others c), λ h. absurd (none others h))) old new (e ∙ sym (append-nil old))

  pub no_cycle : (old new : List Fault) → IsShortestCycle g.shape t None → new ≡ old → TellsMore g t Cycle old new
  no_cycle old new apart = no_more Cycle (λ p h. let s = on_a_cycle p h in apart p s.path s.ends) old new

  -- the one fault of a cycle
  pub a_cycle : ((p q : List Label) → IsShortest (all_deps g.shape) t t p → IsShortest (all_deps g.shape) t t q → p ≡ q) → (p : List Label) → IsShortestCycle g.shape t (Some p)
      → (old new : List Fault) → new ≡ old ++ fault_told g.default (g.places t) t Cycle p ∷ [] → TellsMore g t Cycle old new
  a_cycle one p s old new e = more numbers g t Cycle (p ∷ []) (sorted_one (slice_cmp (label_order g.default)) p) (λ others. (listed others, told others)) old new e
    where
      listed : (others : List Label) → Contains (p ∷ []) others → HasFault g t Cycle others
      listed others c = elim (contains_cases p [] others c) [
        | inl k ↦ subst (HasFault g t Cycle) k (lies_on_cycle p s)
        | inr n ↦ absurd (contains_nothing others n)
      ]

      told : (others : List Label) → HasFault g t Cycle others → Contains (p ∷ []) others
      told others h = subst (λ (z : List Label). Contains (p ∷ []) z) (one p others s (on_a_cycle others h)) (contains_first p [])

-- ---- from the first code to the last
first_code : (g : Facts) (t : Label) (code : Code) (others : List Label) → HasFault g t code others → 33 ≤ code_number code
unfolding code_number
first_code g t _ _ (names_nothing d h m) = omega arith
first_code g t _ _ (depends_on_another d h m) = omega arith
first_code g t _ _ (applies_another d h m) = omega arith
first_code g t _ _ (pools_another d h m) = omega arith
first_code g t _ _ (lies_on_cycle p s) = omega arith
first_code g t _ _ (depends_on_hidden d h m) = omega arith
first_code g t _ _ (applies_hidden d h m) = omega arith
first_code g t _ _ (depends_on_tests d e h m) = omega arith
first_code g t _ _ (reaches_forbidden d m l) = omega arith

last_code : (g : Facts) (t : Label) (code : Code) (others : List Label) → HasFault g t code others → code_number code < 39
unfolding code_number
last_code g t _ _ (names_nothing d h m) = omega arith
last_code g t _ _ (depends_on_another d h m) = omega arith
last_code g t _ _ (applies_another d h m) = omega arith
last_code g t _ _ (pools_another d h m) = omega arith
last_code g t _ _ (lies_on_cycle p s) = omega arith
last_code g t _ _ (depends_on_hidden d h m) = omega arith
last_code g t _ _ (applies_hidden d h m) = omega arith
last_code g t _ _ (depends_on_tests d e h m) = omega arith
last_code g t _ _ (reaches_forbidden d m l) = omega arith

none_below : (g : Facts) (t : Label) (faults : List Fault) → faults ≡ [] → AreBelow g t 33 faults
none_below g t faults e = record {
  findings = [];
  rises = sorted_nothing (finding_order g.default);
  each = λ f. (λ c. absurd (contains_nothing f c), λ h. absurd (let l = first_code g t f.code f.others h.0 in let m = h.1 in omega (arith, l, m)));
  told = e;
}

all_below : (g : Facts) (t : Label) (faults : List Fault) → AreBelow g t 39 faults → AreFaults g t faults
all_below g t faults b = record {
  findings = b.findings;
  rises = b.rises;
  each = λ f. (λ c. ((b.each f).0 c).0, λ h. (b.each f).1 (h, last_code g t f.code f.others h));
  told = b.told;
}

-- the faults of all codes, one after the other
all_told : (g : Facts) (t : Label) (none missing foreign cycle hidden tests all : List Fault) → none ≡ [] → TellsMore g t Unresolved none missing → TellsMore g t WrongKind missing foreign
    → TellsMore g t Cycle foreign cycle → TellsMore g t Invisible cycle hidden → TellsMore g t TestOnly hidden tests → TellsMore g t AssertNoDeps tests all → AreFaults g t all
unfolding code_number
all_told g t none missing foreign cycle hidden tests all e a b c d f h = all_below g t all (h (f (d (c (b (a (none_below g t none e)))))))

pub all_of_them : {T E : Type 0} (r : Result T E) (g : Facts) (t : Label) (none missing foreign cycle hidden tests all : List Fault) → none ≡ [] → TellsMore g t Unresolved none missing
    → TellsMore g t WrongKind missing foreign → TellsMore g t Cycle foreign cycle → TellsMore g t Invisible cycle hidden → TellsMore g t TestOnly hidden tests
    → OnOk r (TellsMore g t AssertNoDeps tests all) → OnOk r (AreFaults g t all)
all_of_them r g t none missing foreign cycle hidden tests all e a b c d f h = on_ok_weaker r (all_told g t none missing foreign cycle hidden tests all e a b c d f) h
