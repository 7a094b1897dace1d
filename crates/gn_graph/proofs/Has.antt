-- Membership tests on lists of numbers.
use Rattle.std.proofs.Common.{◌≡◌, ℕ, zero, suc, ◌+◌, ◌<◌, ◌≤◌, List, [], ◌∷◌, ◌++◌, length, take, drop, get_or}
use Rattle.std.proofs.Common.{true, false, ◌||◌, Some, slice_get, refl, sym, ◌∙◌, ap, inl, inr, nat_eq, eq-eqb, eqb-true, arith}
use Rattle.std.proofs.lemmas.Option.{slice_get_within, get_or_from_slice_get}
use Rattle.std.proofs.lemmas.List.{take_more, take-append-drop}
use Rattle.std.proofs.lemmas.List.Folds.{list_any-append}
use Rattle.std.specs.List.{IsDistinct}
use Rattle.std.proofs.lemmas.Bool.Decides.{nat_tests}
use Rattle.std.proofs.lemmas.Map.Keys.{apart_from_distinct}
pub use Rattle.std.proofs.Math.Bool.{or-false as or_false, or-true as or_true}
pub use Rattle.std.proofs.lemmas.Bool.{or_cases as either, or_parts as absent}
use Rattle.gn_graph.specs.Clauses.{has}

pub has_own : (x : ℕ) (xs : List ℕ) → has (x ∷ xs) x ≡ true
has_own x xs = ap (λ b. b || has xs x) (eq-eqb x x refl)

pub has-append : (xs ys : List ℕ) (q : ℕ) → has (xs ++ ys) q ≡ (has xs q || has ys q)
has-append xs ys q = list_any-append (nat_eq q) xs ys

pub has-take_more : (xs : List ℕ) (i q : ℕ) → i < length xs → has (take (i + 1) xs) q ≡ (has (take i xs) q || nat_eq q (get_or xs i 0))
has-take_more xs i q l = ap (λ z. has z q) (take_more xs i 0 l) ∙ has-append (take i xs) (get_or xs i 0 ∷ []) q ∙ ap (λ b. has (take i xs) q || b) (or_false (nat_eq q (get_or xs i 0)))

pub has-left : (xs ys : List ℕ) (q : ℕ) → has xs q ≡ true → has (xs ++ ys) q ≡ true
has-left xs ys q m = has-append xs ys q ∙ ap (λ b. b || has ys q) m

pub has-right : (xs ys : List ℕ) (q : ℕ) → has ys q ≡ true → has (xs ++ ys) q ≡ true
has-right xs ys q m = has-append xs ys q ∙ ap (λ b. has xs q || b) m ∙ or_true (has xs q)

pub has_in_take : (k : ℕ) (xs : List ℕ) (q : ℕ) → has (take k xs) q ≡ true → has xs q ≡ true
has_in_take k xs q m = ap (λ (z : List ℕ). has z q) (sym (take-append-drop k xs)) ∙ has-left (take k xs) (drop k xs) q m

pub has_at : (xs : List ℕ) (k : ℕ) → k < length xs → has xs (get_or xs k 0) ≡ true
has_at [] k h = absurd (omega (arith, h))
has_at (x ∷ xs) zero h = has_own x xs
has_at (x ∷ xs) (suc k) h = ap (λ b. nat_eq (get_or xs k 0) x || b) (has_at xs k (omega (arith, h))) ∙ or_true (nat_eq (get_or xs k 0) x)

eq_flip : (a b : ℕ) → nat_eq a b ≡ false → nat_eq b a ≡ false
eq_flip a b h = grind (arith, nat_tests)

-- in a distinct list no member stands before its place
pub before_apart : (xs : List ℕ) (i : ℕ) → IsDistinct nat_eq xs → i < length xs → (j : ℕ) → j ≤ i → has (take j xs) (get_or xs i 0) ≡ false
before_apart xs i d l zero h = refl
before_apart xs i d l (suc j) h =
    let m : has (take (j + 1) xs) (get_or xs i 0) ≡ (has (take j xs) (get_or xs i 0) || nat_eq (get_or xs i 0) (get_or xs j 0)) = has-take_more xs j (get_or xs i 0) (omega (arith, h, l)) in
    let n : suc j ≡ j + 1 = omega arith in
    rw n (m ∙ ap (λ b. b || nat_eq (get_or xs i 0) (get_or xs j 0)) (before_apart xs i d l j (omega (arith, h)))
    ∙ eq_flip (get_or xs j 0) (get_or xs i 0) (apart_from_distinct nat_eq xs j i 0 d (omega (arith, h)) l))

-- a member stands somewhere
pub has_index : (xs : List ℕ) (q : ℕ) → has xs q ≡ true → (i : ℕ) × (slice_get xs i ≡ Some q)
has_index [] q m = absurd (cc m)
has_index (x ∷ xs) q m = elim (either (nat_eq q x) (has xs q) m) [
  | inl e ↦ (zero, ap Some (sym (eqb-true q x e)))
  | inr e ↦ let k = has_index xs q e in (suc k.0, k.1)
]

pub index_has : (xs : List ℕ) (i q : ℕ) → slice_get xs i ≡ Some q → has xs q ≡ true
index_has xs i q e = ap (has xs) (sym (get_or_from_slice_get xs i q 0 e)) ∙ has_at xs i (slice_get_within xs i q e)
