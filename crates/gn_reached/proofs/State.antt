-- The state of a walk along all dependencies.
use Rattle.std.proofs.Common.{◌≡◌, ℕ, ◌+◌, ◌<◌, ◌≤◌, List, [], ◌++◌, length, Bool, true, false, ◌||◌, Result, OnOk, Some, slice_get, refl, sym, ◌∙◌, ap, subst, ◌⊎◌, inl, inr, arith}
use Rattle.std.specs.List.{flat_map}
use Rattle.std.proofs.lemmas.List.{length-append}
use Rattle.std.proofs.lemmas.Bool.{cases_lt}
use Rattle.gn_labels.specs.declared.label.Label.{Label}
use Rattle.gn_dependencies.specs.Cycles.{OnlyThese}
use Rattle.gn_dependencies.specs.Laws.{Reached, itself, onward}
use Rattle.gn_dependencies.specs.Lists.{same_label, has, kept, added}
use Rattle.gn_dependencies.specs.Shape.{Shape, all_deps}
use Rattle.gn_dependencies.proofs.At.{was_at, one_there}
use Rattle.gn_dependencies.proofs.Has.{has-added, or_true}
use Rattle.gn_dependencies.proofs.Kept.{has-append, list_more}
use Rattle.gn_dependencies.proofs.OrderLaws.{place_of, has_at}
use Rattle.gn_dependencies.proofs.OrderLaws.{within as place_within}
use Rattle.gn_dependencies.proofs.Same.{own, same}
use Rattle.gn_graph_meant.proofs.Reaching.{has_flat}
use Rattle.gn_resolved_meant.specs.Laws.{IsReachedFrom}

-- what has been met so far, of which those before a place have been looked at
pub record ReachState (g : Shape) (ts out : List Label) (place : ℕ) : Type 0 where
  pub start : (d : Label) → has ts d ≡ true → has out d ≡ true
  pub sound : (q : Label) → has out q ≡ true → IsReachedFrom g ts q
  pub closed : (k : ℕ) (c : Label) → k < place → slice_get out k ≡ Some c → (d : Label) → has (all_deps g c) d ≡ true → has out d ≡ true
  pub within : place ≤ length out

-- three lists, one after the other
pub three_more : {E : Type 0} (r : Result (Unit {0}) E) (out one two three a b c : List Label) → one ≡ added out a → two ≡ added one b → OnOk r (three ≡ added two c)
    → OnOk r (three ≡ added out ((a ++ b) ++ c))
three_more r out one two three a b c p q h =
    subst (λ (z : List Label). OnOk r (three ≡ z))
    (ap (λ z. added z c) (q ∙ ap (λ z. added z b) p ∙ sym (list_more out a b)) ∙ sym (list_more out (a ++ b) c)) h

either : (a b : Bool) → (a || b) ≡ true → (a ≡ true) ⊎ (b ≡ true)
either true b h = inl refl
either false b h = inr h

kept_in : (out xs : List Label) (q : Label) → has out q ≡ true → has (added out xs) q ≡ true
kept_in out xs q h = has-added out xs q ∙ ap (λ b. b || has xs q) h

new_in : (out xs : List Label) (q : Label) → has xs q ≡ true → has (added out xs) q ≡ true
new_in out xs q h = has-added out xs q ∙ ap (λ b. has out q || b) h ∙ or_true (has out q)

next_cases : (k n : ℕ) → k < n + 1 → (k < n) ⊎ (k ≡ n)
next_cases k n h = elim (cases_lt k n) [ inl l ↦ inl l | inr m ↦ inr (omega (arith, m, h)) ]

has_left : (xs ys : List Label) (q : Label) → has xs q ≡ true → has (xs ++ ys) q ≡ true
has_left xs ys q h = has-append xs ys q ∙ ap (λ b. b || has ys q) h

has_right : (xs ys : List Label) (q : Label) → has ys q ≡ true → has (xs ++ ys) q ≡ true
has_right xs ys q h = has-append xs ys q ∙ ap (λ b. has xs q || b) h ∙ or_true (has xs q)

module _ (g : Shape) (ts : List Label) where
  pub begun : (none out : List Label) → none ≡ [] → out ≡ added none ts → ReachState g ts out 0
  begun none out n e = subst (λ (o : List Label). ReachState g ts o 0) (sym (e ∙ ap (λ z. added z ts) n)) (record {
    start = λ d h. new_in [] ts d h;
    sound = λ q h. (q, sym (has-added [] ts q) ∙ h, itself);
    closed = λ k c l. absurd (omega (arith, l));
    within = omega arith;
  })

  further : (z d : Label) → IsReachedFrom g ts z → has (all_deps g z) d ≡ true → IsReachedFrom g ts d
  further z d (t, h, r) e = (t, h, onward z d r e)

  pub gone_on : (out new : List Label) (place : ℕ) (z : Label) → ReachState g ts out place → slice_get out place ≡ Some z → new ≡ added out (all_deps g z)
      → ReachState g ts new (place + 1)
  gone_on out new place z s e n = subst (λ (o : List Label). ReachState g ts o (place + 1)) (sym n) (record {
    start = λ d h. kept_in out more d (s.start d h);
    sound = λ q h. elim (either (has out q) (has more q) (sym (has-added out more q) ∙ h)) [
      | inl i ↦ s.sound q i
      | inr i ↦ further z q (s.sound z (has_at same_label own same out place z e)) i
    ];
    closed = λ k c lt at d h. elim (next_cases k place lt) [
      | inl i ↦ kept_in out more d (s.closed k c i (was_at out (kept (has out) more) k c (omega (arith, i, l)) at) d h)
      | inr i ↦
          let here : slice_get out place ≡ Some c = was_at out (kept (has out) more) place c l (ap (λ j. slice_get (added out more) j) (sym i) ∙ at) in
          let is : c ≡ z = one_there c z (sym here ∙ e) in
          new_in out more d (ap (λ x. has (all_deps g x) d) (sym is) ∙ h)
    ];
    within = omega (arith, length-append out (kept (has out) more), l);
  })
    where
      more : List Label
      more = all_deps g z

      l : place < length out
      l = place_within out place z e

  -- where all have been looked at, all is met that is reached
  reaches : (out : List Label) (place : ℕ) → ReachState g ts out place → length out ≤ place → (t q : Label) → has ts t ≡ true → Reached g t q → has out q ≡ true
  reaches out place s l t q h itself = s.start t h
  reaches out place s l t q h (onward c d r e) =
      let p = place_of same_label own same c out (reaches out place s l t c h r) in
      s.closed p.0 c (omega (arith, place_within out p.0 c p.1, l)) p.1 d e

  pub done : (out : List Label) (place : ℕ) → ReachState g ts out place → length out ≤ place → (q : Label) → IsReachedFrom g ts q → has out q ≡ true
  done out place s l q (t, h, r) = reaches out place s l t q h r

  -- what is reached is one of the labels, or a dependency of one of those that have some
  abbrev pub lead : List Label → List Label
  lead all = ts ++ flat_map (all_deps g) all

  led : (all : List Label) → OnlyThese g all → (t q : Label) → has ts t ≡ true → Reached g t q → has (lead all) q ≡ true
  led all o t q h itself = has_left ts (flat_map (all_deps g) all) t h
  led all o t q h (onward c d r e) = has_right ts (flat_map (all_deps g) all) d (has_flat (all_deps g) all c d (o c d e) e)

  pub in_lead : (all : List Label) → OnlyThese g all → (q : Label) → IsReachedFrom g ts q → has (lead all) q ≡ true
  in_lead all o q (t, h, r) = led all o t q h r
