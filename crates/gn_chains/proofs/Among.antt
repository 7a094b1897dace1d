-- Membership tests on lists of numbers.
use Rattle.std.proofs.Common.{◌≡◌, ℕ, zero, suc, ◌+◌, ◌<◌, ◌≤◌, List, [], ◌∷◌, ◌++◌, length, take, get_or, Bool, true, false, ◌||◌, ltb, refl, sym, ◌∙◌, ap, nat_eq, eq-eqb, arith}
use Rattle.std.specs.List.{IsDistinct}
use Rattle.std.specs.Cmp.{nat_eq_equiv}
use Rattle.std.proofs.lemmas.List.{take_more}
use Rattle.std.proofs.lemmas.List.Folds.{list_any-append}
use Rattle.std.proofs.lemmas.Bool.Decides.{nat_tests}
use Rattle.std.proofs.lemmas.Map.Keys.{apart_from_distinct, IsDistinct-push}
use Rattle.gn_chains.specs.Numbers.{among}
use Rattle.gn_chains.specs.Counts.{numbers}

pub or_false : (b : Bool) → (b || false) ≡ b
or_false true = refl
or_false false = refl

pub or_true : (b : Bool) → (b || true) ≡ true
or_true true = refl
or_true false = refl

pub among_own : (x : ℕ) (xs : List ℕ) → among (x ∷ xs) x ≡ true
among_own x xs = ap (λ b. b || among xs x) (eq-eqb x x refl)

pub among-append : (xs ys : List ℕ) (q : ℕ) → among (xs ++ ys) q ≡ (among xs q || among ys q)
among-append xs ys q = list_any-append (nat_eq q) xs ys

pub among-push : (xs : List ℕ) (x q : ℕ) → among (xs ++ x ∷ []) q ≡ (among xs q || nat_eq q x)
among-push xs x q = among-append xs (x ∷ []) q ∙ ap (λ b. among xs q || b) (or_false (nat_eq q x))

pub among_at : (xs : List ℕ) (k : ℕ) → k < length xs → among xs (get_or xs k 0) ≡ true
among_at [] k h = absurd (omega (arith, h))
among_at (x ∷ xs) zero h = among_own x xs
among_at (x ∷ xs) (suc k) h = ap (λ b. nat_eq (get_or xs k 0) x || b) (among_at xs k (omega (arith, h))) ∙ or_true (nat_eq (get_or xs k 0) x)

pub among-take_more : (xs : List ℕ) (i q : ℕ) → i < length xs → among (take (i + 1) xs) q ≡ (among (take i xs) q || nat_eq q (get_or xs i 0))
among-take_more xs i q l = ap (λ z. among z q) (take_more xs i 0 l) ∙ among-push (take i xs) (get_or xs i 0) q

eq_flip : (a b : ℕ) → nat_eq a b ≡ false → nat_eq b a ≡ false
eq_flip a b h = grind (arith, nat_tests)

-- in a distinct list no member stands before its place
pub before_apart : (xs : List ℕ) (i : ℕ) → IsDistinct nat_eq xs → i < length xs → (j : ℕ) → j ≤ i → among (take j xs) (get_or xs i 0) ≡ false
before_apart xs i d l zero h = refl
before_apart xs i d l (suc j) h =
    let m : among (take (j + 1) xs) (get_or xs i 0) ≡ (among (take j xs) (get_or xs i 0) || nat_eq (get_or xs i 0) (get_or xs j 0)) = among-take_more xs j (get_or xs i 0) (omega (arith, h, l)) in
    let n : suc j ≡ j + 1 = omega arith in
    rw n (m ∙ ap (λ b. b || nat_eq (get_or xs i 0) (get_or xs j 0)) (before_apart xs i d l j (omega (arith, h)))
    ∙ eq_flip (get_or xs j 0) (get_or xs i 0) (apart_from_distinct nat_eq xs j i 0 d (omega (arith, h)) l))

-- ---- the numbers below a count
below_more : (q n : ℕ) → (ltb q n || nat_eq q n) ≡ ltb q (suc n)
below_more q n = grind (arith, nat_tests)

pub among-numbers : (n q : ℕ) → among (numbers n) q ≡ ltb q n
among-numbers zero q = none q
  where
    none : (q : ℕ) → false ≡ ltb q 0
    none q = grind (arith, nat_tests)
among-numbers (suc n) q = among-push (numbers n) n q ∙ ap (λ b. b || nat_eq q n) (among-numbers n q) ∙ below_more q n

ltb_below : (q n : ℕ) → ltb q n ≡ true → q < n
ltb_below q n h = grind (arith, nat_tests)

below_ltb : (q n : ℕ) → q < n → ltb q n ≡ true
below_ltb q n h = grind (arith, nat_tests)

pub number_below : (n q : ℕ) → among (numbers n) q ≡ true → q < n
number_below n q h = ltb_below q n (sym (among-numbers n q) ∙ h)

pub below_number : (n q : ℕ) → q < n → among (numbers n) q ≡ true
below_number n q l = among-numbers n q ∙ below_ltb q n l

not_self : (n : ℕ) → ltb n n ≡ false
not_self n = grind (arith, nat_tests)

pub none_twice : IsDistinct nat_eq []
unfolding IsDistinct
none_twice = tt

pub numbers_once : (n : ℕ) → IsDistinct nat_eq (numbers n)
numbers_once zero = none_twice
numbers_once (suc n) = IsDistinct-push nat_eq_equiv (numbers n) n (numbers_once n) (among-numbers n n ∙ not_self n)

pub numbers-length : (n : ℕ) → length (numbers n) ≡ n
numbers-length zero = refl
numbers-length (suc n) = length_more (numbers n) n ∙ ap (λ k. k + 1) (numbers-length n) ∙ omega arith
  where
    length_more : (xs : List ℕ) (x : ℕ) → length (xs ++ x ∷ []) ≡ length xs + 1
    length_more [] x = refl
    length_more (y ∷ xs) x = let e = length_more xs x in omega (arith, e)
