-- What is left of a text without the white space at its ends.
use Rattle.std.proofs.Common.{◌≡◌, ℕ, zero, suc, ◌+◌, ◌-◌, Bool, true, false, cond, ◌&&◌, List, [], ◌∷◌, ◌++◌, length, take, drop, reverse, refl, sym, ap, ◌∙◌, arith}
use Rattle.std.specs.List.{list_all, prefix_len, suffix_len}
use Rattle.std.proofs.lemmas.Bool.{and_parts}
use Rattle.std.proofs.lemmas.List.{take-append-drop, take_at, drop_at, length-drop, length-reverse, reverse-append, reverse-reverse}
use Rattle.std.proofs.lemmas.List.Folds.{list_all-append}
use Rattle.gn_calls_text.specs.Conversions.{trimmed}
use Rattle.gn_calls_text.specs.Laws.{IsTrimmed}
use Rattle.gn_calls_text.specs.Pieces.{is_white_space}

one_more : (n : ℕ) → 1 + n ≡ suc n
one_more n = omega arith

-- what passes a test from the front on passes it, and what stands behind that begins with nothing that does
front_passes : (p : ℕ → Bool) (xs : List ℕ) → list_all p (take (prefix_len p xs) xs) ≡ true
front_passes p [] = refl
front_passes p (x ∷ xs) = by (front_passes p xs) (p x) refl
  where
    by : list_all p (take (prefix_len p xs) xs) ≡ true → (b : Bool) → p x ≡ b → list_all p (take (cond b (1 + prefix_len p xs) 0) (x ∷ xs)) ≡ true
    by rest true e = ap (λ n. list_all p (take n (x ∷ xs))) (one_more (prefix_len p xs)) ∙ ap (λ v. v && list_all p (take (prefix_len p xs) xs)) e ∙ rest
    by rest false e = refl

behind_stops : (p : ℕ → Bool) (xs : List ℕ) → prefix_len p (drop (prefix_len p xs) xs) ≡ 0
behind_stops p [] = refl
behind_stops p (x ∷ xs) = by (behind_stops p xs) (p x) refl
  where
    by : prefix_len p (drop (prefix_len p xs) xs) ≡ 0 → (b : Bool) → p x ≡ b → prefix_len p (drop (cond b (1 + prefix_len p xs) 0) (x ∷ xs)) ≡ 0
    by rest true e = ap (λ n. prefix_len p (drop n (x ∷ xs))) (one_more (prefix_len p xs)) ∙ rest
    by rest false e = ap (λ v. cond v (1 + prefix_len p xs) 0) e

-- so does the beginning of such a list
beginning_stops : (p : ℕ → Bool) (m : ℕ) (xs : List ℕ) → prefix_len p xs ≡ 0 → prefix_len p (take m xs) ≡ 0
beginning_stops p zero xs h = refl
beginning_stops p (suc m) [] h = refl
beginning_stops p (suc m) (x ∷ xs) h = by (p x) h
  where
    by : (b : Bool) → cond b (1 + prefix_len p xs) 0 ≡ 0 → cond b (1 + prefix_len p (take m xs)) 0 ≡ 0
    by true g = absurd (omega (arith, g))
    by false g = refl

all_reverse : (p : ℕ → Bool) (xs : List ℕ) → list_all p xs ≡ true → list_all p (reverse xs) ≡ true
all_reverse p [] h = refl
all_reverse p (x ∷ xs) h =
    let parts = and_parts (p x) (list_all p xs) h in
    ap (list_all p) (reverse-append (x ∷ []) xs) ∙ list_all-append p (reverse xs) (x ∷ [])
    ∙ ap (λ v. v && (p x && true)) (all_reverse p xs parts.1) ∙ ap (λ v. v && true) parts.0

-- a list turned round in two parts
turned : (rest : List ℕ) (k : ℕ) → rest ≡ reverse (drop k (reverse rest)) ++ reverse (take k (reverse rest))
turned rest k =
    sym (reverse-reverse rest) ∙ ap reverse (sym (take-append-drop k (reverse rest))) ∙ reverse-append (take k (reverse rest)) (drop k (reverse rest))

long : (rest : List ℕ) (k : ℕ) → length (reverse (drop k (reverse rest))) ≡ length rest - k
long rest k = omega (arith, length-reverse (drop k (reverse rest)), length-drop k (reverse rest), length-reverse rest)

taken : (rest : List ℕ) (k : ℕ) → take (length rest - k) rest ≡ reverse (drop k (reverse rest))
taken rest k =
    ap (take (length rest - k)) (turned rest k) ∙ take_at (reverse (drop k (reverse rest))) (reverse (take k (reverse rest))) (length rest - k) (long rest k)

dropped : (rest : List ℕ) (k : ℕ) → drop (length rest - k) rest ≡ reverse (take k (reverse rest))
dropped rest k =
    ap (drop (length rest - k)) (turned rest k) ∙ drop_at (reverse (drop k (reverse rest))) (reverse (take k (reverse rest))) (length rest - k) (long rest k)

pub is_trimmed : (text : List ℕ) → IsTrimmed text (trimmed text)
is_trimmed text =
    let n = prefix_len is_white_space text in
    let rest = drop n text in
    let k = suffix_len is_white_space rest in
    record {
      before = take n text;
      behind = drop (length rest - k) rest;
      is = sym (take-append-drop n text) ∙ ap (λ t. take n text ++ t) (sym (take-append-drop (length rest - k) rest));
      space_before = front_passes is_white_space text;
      space_behind = ap (list_all is_white_space) (dropped rest k) ∙ all_reverse is_white_space (take k (reverse rest)) (front_passes is_white_space (reverse rest));
      begins = beginning_stops is_white_space (length rest - k) rest (behind_stops is_white_space text);
      ends = ap (λ t. prefix_len is_white_space (reverse t)) (taken rest k) ∙ ap (prefix_len is_white_space) (reverse-reverse (drop k (reverse rest))) ∙ behind_stops is_white_space (reverse rest);
    }
