-- One step of counts.
use Rattle.std.proofs.Common.{◌≡◌, ◌+◌, ◌-◌, ◌≤◌, ℕ, suc, [], ◌∷◌, ◌++◌, Option, Some, None, Bool, true, false, cond, ◌||◌, count_by, refl, sym, ap, ◌∙◌, arith}
use Rattle.std.proofs.lemmas.List.Sums.{sum_by-append, sum_by-cons, count_by-le-length}
use Rattle.gn_chains.specs.Counts.{numbers, raised, lessened}
use Rattle.gn_chains.proofs.Among.{numbers-length}

raise_by : (a b : Bool) (n : ℕ) → (b ≡ true → a ≡ false) → (n + cond a 1 0) + cond b 1 0 ≡ n + cond (a || b) 1 0
raise_by true true n h = absurd (cc (h refl))
raise_by true false n h = omega arith
raise_by false true n h = omega arith
raise_by false false n h = omega arith

pub raised-raised : (a b : Bool) (o : Option ℕ) → (b ≡ true → a ≡ false) → raised b (raised a o) ≡ raised (a || b) o
raised-raised a b None h = refl
raised-raised a b (Some n) h = ap Some (raise_by a b n h)

lessen_by : (a b : Bool) (n : ℕ) → (b ≡ true → a ≡ false) → (n - cond a 1 0) - cond b 1 0 ≡ n - cond (a || b) 1 0
lessen_by true true n h = absurd (cc (h refl))
lessen_by true false n h = omega arith
lessen_by false true n h = omega arith
lessen_by false false n h = omega arith

pub lessened-lessened : (a b : Bool) (o : Option ℕ) → (b ≡ true → a ≡ false) → lessened b (lessened a o) ≡ lessened (a || b) o
lessened-lessened a b None h = refl
lessened-lessened a b (Some n) h = ap Some (lessen_by a b n h)

pub raised_false : (o : Option ℕ) → raised false o ≡ o
raised_false None = refl
raised_false (Some n) = ap Some (omega arith)

pub lessened_false : (o : Option ℕ) → lessened false o ≡ o
lessened_false None = refl
lessened_false (Some n) = ap Some (omega arith)

-- ---- counting over the numbers below a count
pub numbers_more : (i : ℕ) → numbers (i + 1) ≡ numbers i ++ i ∷ []
numbers_more i = ap numbers (next i)
  where
    next : (i : ℕ) → i + 1 ≡ suc i
    next i = omega arith

pub count_more : (p : ℕ → Bool) (i : ℕ) → count_by p (numbers (i + 1)) ≡ count_by p (numbers i) + cond (p i) 1 0
count_more p i =
    let a = sum_by-append (λ x. cond (p x) 1 0) (numbers i) (i ∷ []) in
    let b = sum_by-cons (λ x. cond (p x) 1 0) i [] in
    ap (count_by p) (numbers_more i) ∙ omega (arith, a, b)

pub count_small : (p : ℕ → Bool) (i : ℕ) → count_by p (numbers i) ≤ i
count_small p i = let a = count_by-le-length p (numbers i) in let b = numbers-length i in omega (arith, a, b)

pub raised_by : (w b : Bool) (n m : ℕ) → m ≡ n + cond b 1 0 → raised b (cond w (Some n) None) ≡ cond w (Some m) None
raised_by true b n m h = ap Some (sym h)
raised_by false b n m h = refl
