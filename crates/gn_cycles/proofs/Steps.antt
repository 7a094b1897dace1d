-- The state of a search by breadth, label by label.
use Rattle.std.proofs.Common.{◌≡◌, ◌⊎◌, inl, inr, ℕ, zero, suc, ◌+◌, ◌<◌, ◌≤◌, List, [], ◌∷◌, ◌++◌, length, take, slice_get, Some, Bool, true, false, ◌||◌, refl, sym, ◌∙◌, ap, subst, arith, true≢false}
use Rattle.std.proofs.lemmas.Bool.{cases_lt}
use Rattle.std.proofs.lemmas.List.{length-append, take_at}
use Rattle.gn_labels.specs.declared.label.Label.{Label}
use Rattle.gn_dependencies.specs.Lists.{same_label, has}
use Rattle.gn_dependencies.specs.Shape.{Path, end_from}
use Rattle.gn_dependencies.specs.Cycles.{IsPath}
use Rattle.gn_dependencies.proofs.Same.{own, same}
use Rattle.gn_dependencies.proofs.Has.{has_own, or_false}
use Rattle.gn_dependencies.proofs.Kept.{has-append}
use Rattle.gn_dependencies.proofs.At.{left_at, was_at, last_at, one_there, place_cases}
use Rattle.gn_dependencies.proofs.OrderLaws.{at_some, within, place_of, has_at}
use Rattle.gn_cycles.specs.Shortest.{StandsBefore, ComesFirst, IsNotBehind}
use Rattle.gn_cycles.specs.Search.{IsWalk, IsMetBy, AreWays, IsSearch}
use Rattle.gn_cycles.proofs.Orders.{first_trans, first_more, first_last, behind_trans, behind_more, behind_longer, behind_length}
use Rattle.gn_cycles.proofs.Walks.{walk_more, path_walk, more_path, end_more}

pub either : (a b : Bool) → (a || b) ≡ true → (a ≡ true) ⊎ (b ≡ true)
either true b h = inl refl
either false b h = inr h

or_left : (a b : Bool) → a ≡ true → (a || b) ≡ true
or_left a b h = ap (λ z. z || b) h

pub has_left : (xs ys : List Label) (q : Label) → has xs q ≡ true → has (xs ++ ys) q ≡ true
has_left xs ys q h = has-append xs ys q ∙ or_left (has xs q) (has ys q) h

pub has_last : (xs : List Label) (d : Label) → has (xs ++ d ∷ []) d ≡ true
has_last xs d = has_at same_label own same (xs ++ d ∷ []) (length xs) d (last_at xs d)

-- one more is one of them, or the last
pub has_cases : (xs : List Label) (d q : Label) → has (xs ++ d ∷ []) q ≡ true → (has xs q ≡ true) ⊎ (q ≡ d)
has_cases xs d q h = elim (either (has xs q) (has (d ∷ []) q) (sym (has-append xs (d ∷ []) q) ∙ h)) [
  | inl a ↦ inl a
  | inr b ↦ inr (same q d (sym (or_false (same_label q d)) ∙ b))
]

pub below_or : (i n : ℕ) → i < n + 1 → (i < n) ⊎ (i ≡ n)
below_or i n l = elim (cases_lt i n) [ inl m ↦ inl m | inr m ↦ inr (omega (arith, l, m)) ]

-- what is there isn't what is lacking
pub apart : (xs : List Label) (q : Label) → has xs q ≡ true → has xs q ≡ false → ⊥
apart xs q h n = true≢false (sym h ∙ n)

module _ (next : Label → List Label) (t : Label) where
  pub started : IsSearch next t [] [] [] 0 []
  started = record {
    known = record { sized = refl; matched = refl; each = λ k d e. absurd (cc e) };
    done = λ k j d e. absurd (cc e);
    ordered = λ i j p q l a b. absurd (single i j p q l a b);
    leads = λ j c p a b. start j c p a b;
    first = λ k d p e. absurd (cc e);
    closed = λ j c l. absurd (omega (arith, l));
    partial = λ d h. absurd (true≢false (sym h));
  }
    where
      single : (i j : ℕ) (p q : Path) → i < j → slice_get ([] ∷ []) i ≡ Some p → slice_get ([] ∷ []) j ≡ Some q → ⊥
      single i zero p q l a b = omega (arith, l)
      single i (suc j) p q l a b = cc b

      start : (j : ℕ) (c : Label) (p : Path) → slice_get (t ∷ []) j ≡ Some c → slice_get ([] ∷ []) j ≡ Some p → IsWalk next t p × (end_from t p ≡ c)
      start zero c p a b =
          let e : [] ≡ p = one_there [] p b in
          let f : t ≡ c = one_there t c a in
          (subst (λ (z : Path). IsWalk next t z) e tt, ap (end_from t) (sym e) ∙ f)
      start (suc j) c p a b = absurd (cc a)

  -- a dependency that was met before
  pub met : (labels : List Label) (came : List ℕ) (ways : List Path) (m : ℕ) (seen : List Label) (d : Label) → IsSearch next t labels came ways m seen → has labels d ≡ true
      → IsSearch next t labels came ways m (seen ++ d ∷ [])
  met labels came ways m seen d s h = record {
    known = s.known;
    done = λ k j e a b. elim (s.done k j e a b) [ inl l ↦ inl l | inr r ↦ inr (r.0, has_left seen (d ∷ []) e r.1) ];
    ordered = s.ordered;
    leads = s.leads;
    first = s.first;
    closed = s.closed;
    partial = λ e i. elim (has_cases seen d e i) [ inl a ↦ s.partial e a | inr b ↦ ap (has labels) b ∙ h ];
  }

  -- the dependencies of one more are met
  pub passed : (labels : List Label) (came : List ℕ) (ways : List Path) (m : ℕ) (c : Label) → slice_get (t ∷ labels) m ≡ Some c → IsSearch next t labels came ways m (next c)
      → IsSearch next t labels came ways (m + 1) []
  passed labels came ways m c at s = record {
    known = s.known;
    done = λ k j e a b. elim (s.done k j e a b) [ inl l ↦ inl (omega (arith, l)) | inr r ↦ let l = r.0 in inl (omega (arith, l)) ];
    ordered = s.ordered;
    leads = s.leads;
    first = s.first;
    closed = λ j e l a. elim (below_or j m l) [
      | inl i ↦ s.closed j e i a
      | inr i ↦ λ d h. s.partial d (ap (λ z. has (next z) d) (one_there c e (sym at ∙ ap (slice_get (t ∷ labels)) (sym i) ∙ a)) ∙ h)
    ];
    partial = λ d h. absurd (true≢false (sym h));
  }
