-- The order of paths.
use Rattle.std.proofs.Common.{◌≡◌, ◌⊎◌, inl, inr, ℕ, ◌<◌, ◌≤◌, List, [], ◌∷◌, ◌++◌, length, take, true, false, refl, sym, ◌∙◌, ap, subst, arith, true≢false}
use Rattle.std.proofs.lemmas.Bool.{cases_lt}
use Rattle.std.proofs.lemmas.List.{length-append}
use Rattle.gn_labels.specs.declared.label.Label.{Label}
use Rattle.gn_dependencies.specs.Lists.{same_label, has}
use Rattle.gn_dependencies.specs.Shape.{Path, end_from}
use Rattle.gn_dependencies.proofs.Same.{own, same}
use Rattle.gn_dependencies.proofs.OrderLaws.{take_in}
use Rattle.gn_cycles.specs.Shortest.{StandsBefore, Precedes, ComesFirst, IsNotBehind}

pub stands_trans : (xs : List Label) (a b c : Label) → StandsBefore xs a b → StandsBefore xs b c → StandsBefore xs a c
stands_trans xs a b c (i, ha, nb) (j, hb, nc) = elim (cases_lt i j) [
  | inl l ↦ (j, take_in same_label own same xs j i a (omega (arith, l)) ha, nc)
  | inr l ↦ absurd (true≢false (sym (take_in same_label own same xs i j b (omega (arith, l)) hb) ∙ nb))
]

pub stands_apart : (xs : List Label) (a : Label) → StandsBefore xs a a → ⊥
stands_apart xs a (i, h, n) = true≢false (sym h ∙ n)

module _ (next : Label → List Label) where
  pub precedes_apart : (t : Label) (p : Path) → Precedes next t p p → ⊥
  precedes_apart t [] h = h
  precedes_apart t (d ∷ p) (inl s) = stands_apart (next t) d s
  precedes_apart t (d ∷ p) (inr h) = precedes_apart d p h.1

  pub precedes_trans : (t : Label) (p q r : Path) → Precedes next t p q → Precedes next t q r → Precedes next t p r
  precedes_trans t [] q r h k = absurd h
  precedes_trans t (d ∷ p) [] r h k = absurd h
  precedes_trans t (d ∷ p) (e ∷ q) [] h k = absurd k
  precedes_trans t (d ∷ p) (e ∷ q) (f ∷ r) (inl s) (inl u) = inl (stands_trans (next t) d e f s u)
  precedes_trans t (d ∷ p) (e ∷ q) (f ∷ r) (inl s) (inr k) = inl (subst (λ (z : Label). StandsBefore (next t) d z) k.0 s)
  precedes_trans t (d ∷ p) (e ∷ q) (f ∷ r) (inr h) (inl u) = inl (subst (λ (z : Label). StandsBefore (next t) z f) (sym h.0) u)
  precedes_trans t (d ∷ p) (e ∷ q) (f ∷ r) (inr h) (inr k) =
      inr (h.0 ∙ k.0, precedes_trans d p q r h.1 (subst (λ (z : Label). Precedes next z q r) (sym h.0) k.1))

  pub first_trans : (t : Label) (p q r : Path) → ComesFirst next t p q → ComesFirst next t q r → ComesFirst next t p r
  first_trans t p q r (inl l) (inl m) = inl (omega (arith, l, m))
  first_trans t p q r (inl l) (inr k) = inl (omega (arith, l, k.0))
  first_trans t p q r (inr h) (inl m) = inl (omega (arith, m, h.0))
  first_trans t p q r (inr h) (inr k) = inr (h.0 ∙ k.0, precedes_trans t p q r h.1 k.1)

  pub first_apart : (t : Label) (p : Path) → ComesFirst next t p p → ⊥
  first_apart t p (inl l) = omega (arith, l)
  first_apart t p (inr h) = precedes_apart t p h.1

  pub behind_trans : (t : Label) (p q r : Path) → IsNotBehind next t p q → IsNotBehind next t q r → IsNotBehind next t p r
  behind_trans t p q r (inl e) k = subst (λ (z : Path). IsNotBehind next t z r) (sym e) k
  behind_trans t p q r (inr h) (inl e) = inr (subst (λ (z : Path). ComesFirst next t p z) e h)
  behind_trans t p q r (inr h) (inr k) = inr (first_trans t p q r h k)

  -- of two paths neither of which is behind the other both are one
  pub one_first : (t : Label) (p q : Path) → IsNotBehind next t p q → IsNotBehind next t q p → p ≡ q
  one_first t p q (inl e) k = e
  one_first t p q (inr h) (inl e) = sym e
  one_first t p q (inr h) (inr k) = absurd (first_apart t p (first_trans t p q p h k))

  -- ---- paths with one edge more
  pub precedes_more : (t : Label) (p q : Path) (d e : Label) → Precedes next t p q → Precedes next t (p ++ d ∷ []) (q ++ e ∷ [])
  precedes_more t [] q d e h = absurd h
  precedes_more t (x ∷ p) [] d e h = absurd h
  precedes_more t (x ∷ p) (y ∷ q) d e (inl s) = inl s
  precedes_more t (x ∷ p) (y ∷ q) d e (inr h) = inr (h.0, precedes_more x p q d e h.1)

  pub precedes_last : (t : Label) (p : Path) (d e : Label) → StandsBefore (next (end_from t p)) d e → Precedes next t (p ++ d ∷ []) (p ++ e ∷ [])
  precedes_last t [] d e s = inl s
  precedes_last t (x ∷ p) d e s = inr (refl, precedes_last x p d e s)

  pub first_more : (t : Label) (p q : Path) (d e : Label) → ComesFirst next t p q → ComesFirst next t (p ++ d ∷ []) (q ++ e ∷ [])
  first_more t p q d e (inl l) = inl (omega (arith, l, length-append p (d ∷ []), length-append q (e ∷ [])))
  first_more t p q d e (inr h) = inr (let l = h.0 in omega (arith, l, length-append p (d ∷ []), length-append q (e ∷ [])), precedes_more t p q d e h.1)

  pub first_last : (t : Label) (p : Path) (d e : Label) → StandsBefore (next (end_from t p)) d e → ComesFirst next t (p ++ d ∷ []) (p ++ e ∷ [])
  first_last t p d e s = inr (let a = length-append p (d ∷ []) in let b = length-append p (e ∷ []) in omega (arith, a, b), precedes_last t p d e s)

  pub behind_more : (t : Label) (p q : Path) (d : Label) → IsNotBehind next t p q → IsNotBehind next t (p ++ d ∷ []) (q ++ d ∷ [])
  behind_more t p q d (inl e) = inl (ap (λ (z : Path). z ++ d ∷ []) e)
  behind_more t p q d (inr h) = inr (first_more t p q d d h)

  pub behind_longer : (t : Label) (p q : Path) → length p < length q → IsNotBehind next t p q
  behind_longer t p q l = inr (inl l)

  pub behind_length : (t : Label) (p q : Path) → IsNotBehind next t p q → length p ≤ length q
  behind_length t p q (inl e) = let l = ap length e in omega (arith, l)
  behind_length t p q (inr (inl l)) = omega (arith, l)
  behind_length t p q (inr (inr h)) = let l = h.0 in omega (arith, l)
