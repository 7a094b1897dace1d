-- For each path there is one with the same end that is no longer than the list of the labels that have dependencies.
use Rattle.std.proofs.Common.{◌≡◌, ℕ, suc, ◌≤◌, List, [], ◌∷◌, length, Bool, true, false, ◌||◌, refl, sym, ◌∙◌, ap, subst, arith}
use Rattle.std.specs.List.{IsDistinct, AllByRecursion}
use Rattle.std.proofs.lemmas.Map.Keys.{IsDistinct-cons, IsDistinct-tail}
use Rattle.std.proofs.lemmas.Map.Made.{length-le_from_is_member}
use Rattle.gn_labels.specs.declared.label.Label.{Label}
use Rattle.gn_dependencies.specs.Lists.{same_label, has}
use Rattle.gn_dependencies.specs.Shape.{Path, end_from}
use Rattle.gn_dependencies.proofs.Same.{same, label_equiv}
use Rattle.gn_cycles.specs.Search.{IsWalk}
use Rattle.gn_graph_meant.specs.Laws.{OnlyFrom}

-- the labels from which the edges of a path go
abbrev starts : Label → Path → List Label
starts t [] = []
starts t (d ∷ p) = t ∷ starts d p

starts-length : (t : Label) (p : Path) → length (starts t p) ≡ length p
starts-length t [] = refl
starts-length t (d ∷ p) = ap suc (starts-length d p)

pub apart : (x : Label) (xs : List Label) → has xs x ≡ false → AllByRecursion (λ y. same_label x y ≡ false) xs
apart x [] h = tt
apart x (y ∷ ys) h = go (same_label x y) refl h (apart x ys)
  where
    go : (b : Bool) → same_label x y ≡ b → (b || has ys x) ≡ false → (has ys x ≡ false → AllByRecursion (λ y. same_label x y ≡ false) ys)
        → AllByRecursion (λ y. same_label x y ≡ false) (y ∷ ys)
    go true e h others = absurd (cc h)
    go false e h others = (e, others h)

pub alone : (x : Label) → IsDistinct same_label (x ∷ [])
unfolding IsDistinct
alone x = (tt, tt)

module _ (next : Label → List Label) where
  -- a walk of one edge at least and of at most n, no two edges of which go from one label
  abbrev Loopless : Label → Label → ℕ → Type 0
  Loopless t goal n = (p : Path) × IsWalk next t p × (end_from t p ≡ goal) × (1 ≤ length p) × (length p ≤ n) × IsDistinct same_label (starts t p)

  wider : (t goal : Label) (m n : ℕ) → m ≤ n → Loopless t goal m → Loopless t goal n
  wider t goal m n l (p, w, e, one, few, once) = (p, w, e, one, omega (arith, l, few), once)

  -- the rest of a walk from a label from which one of its edges goes
  from_label : (t x : Label) (p : Path) → IsWalk next x p → has (starts x p) t ≡ true → IsDistinct same_label (starts x p) → Loopless t (end_from x p) (length p)
  from_label t x [] w h once = absurd (cc h)
  from_label t x (y ∷ p) w h once = go (same_label t x) refl h (λ i. from_label t y p w.1 i (IsDistinct-tail same_label x (starts y p) once))
    where
      go : (b : Bool) → same_label t x ≡ b → (b || has (starts y p) t) ≡ true → (has (starts y p) t ≡ true → Loopless t (end_from y p) (length p))
          → Loopless t (end_from y p) (suc (length p))
      go true e h onward =
          let P : Label → Type 0 = λ z. Loopless z (end_from y p) (suc (length p)) in
          subst P (sym (same t x e)) (y ∷ p, w, refl, omega arith, omega arith, once)
      go false e h onward = wider t (end_from y p) (length p) (suc (length p)) (omega arith) (onward h)

  loopless : (t d : Label) (p : Path) → IsWalk next t (d ∷ p) → Loopless t (end_from d p) (suc (length p))
  loopless t d [] w = (d ∷ [], w, refl, omega arith, omega arith, alone t)
  loopless t d (e ∷ p) w = on (loopless d e p w.1)
    where
      on : Loopless d (end_from e p) (suc (length p)) → Loopless t (end_from e p) (suc (suc (length p)))
      on (q, v, f, one, few, once) = go (has (starts d q) t) refl
        where
          go : (b : Bool) → has (starts d q) t ≡ b → Loopless t (end_from e p) (suc (suc (length p)))
          go true h =
              let P : Label → Type 0 = λ z. Loopless t z (suc (suc (length p))) in
              subst P f (wider t (end_from d q) (length q) (suc (suc (length p))) (omega (arith, few)) (from_label t d q v h once))
          go false h = (d ∷ q, (w.0, v), f, omega arith, omega (arith, few), IsDistinct-cons same_label t (starts d q) (apart t (starts d q) h) once)

  -- edges go from labels that have dependencies
  starts_among : (all : List Label) → OnlyFrom next all → (t : Label) (p : Path) → IsWalk next t p → (q : Label) → has (starts t p) q ≡ true → has all q ≡ true
  starts_among all only t [] w q h = absurd (cc h)
  starts_among all only t (d ∷ p) w q h = go (same_label q t) refl h (starts_among all only d p w.1 q)
    where
      go : (b : Bool) → same_label q t ≡ b → (b || has (starts d p) q) ≡ true → (has (starts d p) q ≡ true → has all q ≡ true) → has all q ≡ true
      go true e h onward = ap (has all) (same q t e) ∙ only t d w.0
      go false e h onward = onward h

  -- a walk of one edge at least to the same end, of no more edges than there are labels
  pub short_walk : (all : List Label) → OnlyFrom next all → (t d : Label) (p : Path) → IsWalk next t (d ∷ p)
      → (q : Path) × IsWalk next t q × (end_from t q ≡ end_from d p) × (1 ≤ length q) × (length q ≤ length all)
  short_walk all only t d p w = on (loopless t d p w)
    where
      on : Loopless t (end_from d p) (suc (length p)) → (q : Path) × IsWalk next t q × (end_from t q ≡ end_from d p) × (1 ≤ length q) × (length q ≤ length all)
      on (q, v, e, one, few, once) =
          let l : length (starts t q) ≤ length all = length-le_from_is_member label_equiv (starts t q) all once (starts_among all only t q v) in
          (q, v, e, one, omega (arith, l, starts-length t q))
