-- What a search along a chain knows at its ends.
use Rattle.std.proofs.Common.{◌≡◌, ℕ, suc, zero, ◌+◌, ◌-◌, ◌≤◌, ◌<◌, length, List, [], ◌∷◌, Some, None, refl, sym, ◌∙◌, ap, subst, ◌⊎◌, inl, inr, arith}
use Rattle.std.proofs.lemmas.Bool.{cases_lt}
use Rattle.gn_book.specs.Chains.{Next, walk_by, walk, LeadsTo}
use Rattle.gn_book.proofs.Walks.{In, Listed, short_walk, walk-add}

abbrev pub Missed : Next → ℕ → ℕ → ℕ → Type 0
Missed next n q k = (j : ℕ) → j < n → walk next j q ≡ Some k → ⊥

-- one step more
pub missed_more : (next : Next) (n q k at : ℕ) → walk next n q ≡ Some at → (at ≡ k → ⊥) → Missed next n q k → Missed next (n + 1) q k
missed_more next n q k at w apart m j lt h = go (cases_lt j n)
  where
    go : ((j < n) ⊎ (n ≤ j)) → ⊥
    go (inl l) = m j l h
    go (inr l) =
        let e : j ≡ n = omega (arith, lt, l) in
        let s : walk next n q ≡ Some k = subst (λ z. walk next z q ≡ Some k) e h in
        apart (cc)

pub walk_more : (next : Next) (n q at r : ℕ) → walk next n q ≡ Some at → next at ≡ Some r → walk next (n + 1) q ≡ Some r
walk_more next n q at r w e = walk-add next n 1 q ∙ ap (λ x. walk_by x (λ z. walk next 1 z)) w ∙ ap (λ x. walk_by x (λ z. walk next 0 z)) e

-- a chain that ends before k doesn't lead there
pub dead_end : (next : Next) (n q k at : ℕ) → walk next n q ≡ Some at → next at ≡ None → (at ≡ k → ⊥) → Missed next n q k → LeadsTo next q k → ⊥
dead_end next n q k at w e apart m (i, h) = go (cases_lt i (n + 1))
  where
    go : ((i < n + 1) ⊎ (n + 1 ≤ i)) → ⊥
    go (inl l) = missed_more next n q k at w apart m i l h
    go (inr l) =
        let d : n + suc (i - (n + 1)) ≡ i = omega (arith, l) in
        let s : walk next i q ≡ None = sym (ap (λ z. walk next z q) d) ∙ walk-add next n (suc (i - (n + 1))) q
        ∙ ap (λ x. walk_by x (λ z. walk next (suc (i - (n + 1))) z)) w ∙ ap (λ x. walk_by x (λ z. walk next (i - (n + 1)) z)) e in
        cc

-- nor one that has missed k for as many steps as there are keys
pub spent : (next : Next) (xs : List ℕ) (n q k at : ℕ) → Listed next xs → length xs ≤ n → walk next n q ≡ Some at → (at ≡ k → ⊥) → Missed next n q k → LeadsTo next q k → ⊥
spent next xs n q k at l le w apart m (i, h) =
    let near = short_walk next xs l i q k h in
    missed_more next n q k at w apart m near.0 (omega (arith, near.1, le)) near.2

-- the numbers below one
abbrev pub numbers : ℕ → List ℕ
numbers zero = []
numbers (suc n) = n ∷ numbers n

pub numbers_length : (n : ℕ) → length (numbers n) ≡ n
numbers_length zero = refl
numbers_length (suc n) = ap suc (numbers_length n)

pub numbers_in : (n q : ℕ) → q < n → In (numbers n) q
numbers_in zero q l = absurd (omega (arith, l))
numbers_in (suc n) q l = elim (cases_lt q n) [ inl m ↦ inr (numbers_in n q m) | inr m ↦ inl (omega (arith, l, m)) ]
