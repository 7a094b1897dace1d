-- A walk that leads to a key does so within as many steps as there are keys with a next one.
use Rattle.std.proofs.Common.{◌≡◌, ℕ, suc, zero, ◌+◌, ◌≤◌, length, List, [], ◌∷◌, Option, Some, None, refl, sym, subst, ◌⊎◌, inl, inr, Bool, true, false, cond, arith, nat_eq, eq-eqb, eqb-true, zero-add, suc-add}
use Rattle.gn_book.specs.Chains.{Next, walk_by, walk}

abbrev pub In : List ℕ → ℕ → Type 0
In [] q = ⊥
In (x ∷ xs) q = (x ≡ q) ⊎ In xs q

abbrev pub put : Next → ℕ → Option ℕ → Next
put m k v q = cond (nat_eq k q) v (m q)

same_own : (q : ℕ) → nat_eq q q ≡ true
same_own q = eq-eqb q q refl

same_key_is : (q s : ℕ) → nat_eq q s ≡ true → q ≡ s
same_key_is q s e = eqb-true q s e

abbrev without : List ℕ → ℕ → List ℕ
without [] q = []
without (x ∷ xs) q = cond (nat_eq q x) (without xs q) (x ∷ without xs q)

le_by : (b : Bool) (x : ℕ) (ys xs : List ℕ) → length ys ≤ length xs → length (cond b ys (x ∷ ys)) ≤ suc (length xs)
le_by true x ys xs h = omega (arith, h)
le_by false x ys xs h = omega (arith, h)

without_le : (xs : List ℕ) (q : ℕ) → length (without xs q) ≤ length xs
without_le [] q = omega arith
without_le (x ∷ xs) q = le_by (nat_eq q x) x (without xs q) xs (without_le xs q)

lt_by : (b : Bool) (x : ℕ) (ys xs : List ℕ) → suc (length ys) ≤ length xs → suc (length (cond b ys (x ∷ ys))) ≤ suc (length xs)
lt_by true x ys xs h = omega (arith, h)
lt_by false x ys xs h = omega (arith, h)

without_lt : (xs : List ℕ) (q : ℕ) → In xs q → suc (length (without xs q)) ≤ length xs
without_lt [] q h = absurd h
without_lt (x ∷ xs) q (inl e) =
    let s : nat_eq q x ≡ true = subst (λ z. nat_eq q z ≡ true) (sym e) (same_own q) in
    rw s (omega (arith, without_le xs q))
without_lt (x ∷ xs) q (inr h) = lt_by (nat_eq q x) x (without xs q) xs (without_lt xs q h)

in_by : (b : Bool) (x y : ℕ) (ys : List ℕ) → In ys y → In (cond b ys (x ∷ ys)) y
in_by true x y ys h = h
in_by false x y ys h = inr h

without_in : (xs : List ℕ) (q y : ℕ) → nat_eq q y ≡ false → In xs y → In (without xs q) y
without_in [] q y d h = absurd h
without_in (x ∷ xs) q y d (inl e) = let s : nat_eq q x ≡ false = subst (λ z. nat_eq q z ≡ false) (sym e) d in rw s (inl e)
without_in (x ∷ xs) q y d (inr h) = in_by (nat_eq q x) x y (without xs q) (without_in xs q y d h)

-- a walk either avoids q or goes on from q in no more steps
abbrev Avoids : Next → ℕ → ℕ → ℕ → Option ℕ → Type 0
Avoids next q k m x = (x ≡ Some k) ⊎ ((j : ℕ) × (j ≤ m) × (walk next j q ≡ Some k))

later : (next : Next) (q k : ℕ) (m : ℕ) (x : Option ℕ) → Avoids next q k m x → Avoids next q k (suc m) x
later next q k m x (inl h) = inl h
later next q k m x (inr h) = inr (h.0, omega (arith, h.1), h.2)

along : (next : Next) (q k : ℕ) (m : ℕ) (x : Option ℕ) → ((r : ℕ) → walk next m r ≡ Some k → Avoids next q k m (walk (put next q None) m r))
    → walk_by x (λ r. walk next m r) ≡ Some k → Avoids next q k (suc m) (walk_by x (λ r. walk (put next q None) m r))
along next q k m None ih h = cc
along next q k m (Some r) ih h = later next q k m (walk (put next q None) m r) (ih r h)

avoids_by : (next : Next) (q k : ℕ) (m : ℕ) (s : ℕ) (b : Bool) → nat_eq q s ≡ b → ((r : ℕ) → walk next m r ≡ Some k → Avoids next q k m (walk (put next q None) m r))
    → walk next (suc m) s ≡ Some k → Avoids next q k (suc m) (walk_by (cond b None (next s)) (λ r. walk (put next q None) m r))
avoids_by next q k m s true e ih h = inr (suc m, omega arith, subst (λ z. walk next (suc m) z ≡ Some k) (sym (same_key_is q s e)) h)
avoids_by next q k m s false e ih h = along next q k m (next s) ih h

avoids : (next : Next) (q k : ℕ) (m : ℕ) (s : ℕ) → walk next m s ≡ Some k → Avoids next q k m (walk (put next q None) m s)
avoids next q k zero s h = inl h
avoids next q k (suc m) s h = avoids_by next q k m s (nat_eq q s) refl (λ r i. avoids next q k m r i) h

-- a walk that avoids q is a walk
back_by : (next : Next) (q k s : ℕ) (m : ℕ) (b : Bool) → ((r : ℕ) → walk (put next q None) m r ≡ Some k → walk next m r ≡ Some k)
    → walk_by (cond b None (next s)) (λ r. walk (put next q None) m r) ≡ Some k → walk_by (next s) (λ r. walk next m r) ≡ Some k
back_by next q k s m true ih h = cc
back_by next q k s m false ih h = go (next s) h
  where
    go : (x : Option ℕ) → walk_by x (λ r. walk (put next q None) m r) ≡ Some k → walk_by x (λ r. walk next m r) ≡ Some k
    go None h = cc
    go (Some r) h = ih r h

back : (next : Next) (q k : ℕ) (m : ℕ) (s : ℕ) → walk (put next q None) m s ≡ Some k → walk next m s ≡ Some k
back next q k zero s h = h
back next q k (suc m) s h = back_by next q k s m (nat_eq q s) (λ r i. back next q k m r i) h

abbrev pub Within : Next → List ℕ → ℕ → ℕ → Type 0
Within next xs q k = (m : ℕ) × (m ≤ length xs) × (walk next m q ≡ Some k)

abbrev pub Listed : Next → List ℕ → Type 0
Listed next xs = (q r : ℕ) → next q ≡ Some r → In xs q

listed_without : (next : Next) (xs : List ℕ) (q : ℕ) → Listed next xs → Listed (put next q None) (without xs q)
listed_without next xs q l y r h = go (nat_eq q y) refl h
  where
    go : (b : Bool) → nat_eq q y ≡ b → cond b None (next y) ≡ Some r → In (without xs q) y
    go true e h = cc
    go false e h = without_in xs q y e (l y r h)

abbrev Shorter : ℕ → Type 0
Shorter d = (next : Next) (xs : List ℕ) → length xs ≤ d → Listed next xs → (n : ℕ) (q k : ℕ) → walk next n q ≡ Some k → Within next xs q k

-- from a step on, by walks that avoid where it began
from_step : (d : ℕ) → Shorter d → (next : Next) (xs : List ℕ) → length xs ≤ suc d → Listed next xs → (n : ℕ) (q k : ℕ)
    → ((j : ℕ) → j ≤ n → walk next j q ≡ Some k → Within next xs q k)
    → (x : Option ℕ) → next q ≡ x → walk_by x (λ r. walk next n r) ≡ Some k → Within next xs q k
from_step d sh next xs le l n q k less None e h = cc
from_step d sh next xs le l n q k less (Some r) e h = go (avoids next q k n r h)
  where
    inside : In xs q
    inside = l q r e

    go : Avoids next q k n (walk (put next q None) n r) → Within next xs q k
    go (inl w) =
        let found = sh (put next q None) (without xs q) (omega (arith, without_lt xs q inside, le)) (listed_without next xs q l) n r k w in
        (suc found.0, omega (arith, found.1, without_lt xs q inside), rw e (back next q k found.0 r found.2))
    go (inr w) = less w.0 w.1 w.2

by_bound : (d : ℕ) → Shorter d → (next : Next) (xs : List ℕ) → length xs ≤ suc d → Listed next xs → (b n : ℕ) → n ≤ b → (q k : ℕ) → walk next n q ≡ Some k → Within next xs q k
by_bound d sh next xs le l b zero nb q k h = (zero, omega arith, h)
by_bound d sh next xs le l zero (suc n) nb q k h = absurd (omega (arith, nb))
by_bound d sh next xs le l (suc b) (suc n) nb q k h =
    from_step d sh next xs le l n q k (λ j jn w. by_bound d sh next xs le l b j (omega (arith, jn, nb)) q k w) (next q) refl h

none_listed : (next : Next) (xs : List ℕ) → length xs ≤ 0 → Listed next xs → (n : ℕ) (q k : ℕ) → (x : Option ℕ) → next q ≡ x → walk_by x (λ r. walk next n r) ≡ Some k → Within next xs q k
none_listed next xs le l n q k None e h = cc
none_listed next [] le l n q k (Some r) e h = absurd (l q r e)
none_listed next (x ∷ xs) le l n q k (Some r) e h = absurd (omega (arith, le))

shorter : (d : ℕ) → Shorter d
shorter zero next xs le l zero q k h = (zero, omega arith, h)
shorter zero next xs le l (suc n) q k h = none_listed next xs le l n q k (next q) refl h
shorter (suc d) next xs le l n q k h = by_bound d (shorter d) next xs le l n n (omega arith) q k h

-- a walk of any length that leads from q to k is one of at most as many steps as there are keys with a next one
pub short_walk : (next : Next) (xs : List ℕ) → Listed next xs → (n : ℕ) (q k : ℕ) → walk next n q ≡ Some k → Within next xs q k
short_walk next xs l n q k h = shorter (length xs) next xs (omega arith) l n q k h

walk-add_by : (next : Next) (m n : ℕ) (x : Option ℕ) → ((r : ℕ) → walk next (m + n) r ≡ walk_by (walk next m r) (λ z. walk next n z))
    → walk_by x (λ r. walk next (m + n) r) ≡ walk_by (walk_by x (λ r. walk next m r)) (λ r. walk next n r)
walk-add_by next m n None ih = refl
walk-add_by next m n (Some r) ih = ih r

pub walk-add : (next : Next) (m n : ℕ) (q : ℕ) → walk next (m + n) q ≡ walk_by (walk next m q) (λ r. walk next n r)
walk-add next zero n q = rw zero-add refl
walk-add next (suc m) n q = rw suc-add (walk-add_by next m n (next q) (λ r. walk-add next m n r))
