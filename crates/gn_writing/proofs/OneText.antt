-- A mangled name is that of one text.
use Rattle.std.proofs.Common.{◌≡◌, ℕ, ◌+◌, ◌-◌, ◌*◌, ◌/◌, ◌%◌, ◌<◌, ◌≤◌, nat_lt, Bool, true, false, cond, List, [], ◌∷◌, ◌++◌, refl, sym, ap, ◌∙◌, arith}
use Rattle.std.specs.Char.{is_ascii_alphanumeric}
use Rattle.std.proofs.lemmas.Bool.{ltb-true, ltb-false}
use Rattle.std.proofs.Math.Nat.{div-add-mod}
use Rattle.gn_writing.specs.Names.{hex_digit, mangled}

one_digit : (m n : ℕ) → hex_digit m ≡ hex_digit n → m ≡ n
one_digit m n e = by (nat_lt m 10) (nat_lt n 10) refl refl e
  where
    by : (v w : Bool) → nat_lt m 10 ≡ v → nat_lt n 10 ≡ w → cond v (48 + m) (97 + (m - 10)) ≡ cond w (48 + n) (97 + (n - 10)) → m ≡ n
    by true true p q e = omega arith
    by true false p q e = let a : m < 10 = ltb-true m 10 p in omega arith
    by false true p q e = let b : n < 10 = ltb-true n 10 q in omega arith
    by false false p q e =
        let a : 10 ≤ m = ltb-false m 10 p in
        let b : 10 ≤ n = ltb-false n 10 q in
        omega arith

one_byte : (a b : ℕ) → a / 16 ≡ b / 16 → a % 16 ≡ b % 16 → a ≡ b
one_byte a b p q =
    sym (div-add-mod a 16) ∙ ap (λ (z : ℕ). 16 * z + a % 16) p ∙ ap (λ (z : ℕ). 16 * (b / 16) + z) q ∙ div-add-mod b 16

-- a byte in a mangled name, by whether it stays
mangled_as : Bool → ℕ → List ℕ
mangled_as v b = cond v (b ∷ []) (95 ∷ hex_digit (b / 16) ∷ hex_digit (b % 16) ∷ [])

stays_apart : (x : ℕ) → is_ascii_alphanumeric x ≡ true → x ≡ 95 → ⊥
stays_apart x p h = let bad : false ≡ true = ap is_ascii_alphanumeric (sym h) ∙ p in absurd (cc)

one_first : (x y : ℕ) (xs ys : List ℕ) (v w : Bool) → is_ascii_alphanumeric x ≡ v → is_ascii_alphanumeric y ≡ w → (mangled xs ≡ mangled ys → xs ≡ ys) → mangled_as v x ++ mangled xs ≡ mangled_as w y ++ mangled ys → x ∷ xs ≡ y ∷ ys
unfolding mangled_as
one_first x y xs ys true true p q rest e =
    let h : x ≡ y = cc in
    let t : mangled xs ≡ mangled ys = cc in
    ap (λ (z : ℕ). z ∷ xs) h ∙ ap (λ (z : List ℕ). y ∷ z) (rest t)
one_first x y xs ys true false p q rest e = let h : x ≡ 95 = cc in absurd (stays_apart x p h)
one_first x y xs ys false true p q rest e = let h : y ≡ 95 = cc in absurd (stays_apart y q h)
one_first x y xs ys false false p q rest e =
    let d : hex_digit (x / 16) ≡ hex_digit (y / 16) = cc in
    let m : hex_digit (x % 16) ≡ hex_digit (y % 16) = cc in
    let t : mangled xs ≡ mangled ys = cc in
    ap (λ (z : ℕ). z ∷ xs) (one_byte x y (one_digit (x / 16) (y / 16) d) (one_digit (x % 16) (y % 16) m)) ∙ ap (λ (z : List ℕ). y ∷ z) (rest t)

never_empty : (v : Bool) (y : ℕ) (ys : List ℕ) → [] ≡ mangled_as v y ++ ys → ⊥
unfolding mangled_as
never_empty true y ys e = absurd (cc)
never_empty false y ys e = absurd (cc)

pub one_text : (a b : List ℕ) → mangled a ≡ mangled b → a ≡ b
unfolding mangled_as
one_text [] [] e = refl
one_text [] (y ∷ ys) e = absurd (never_empty (is_ascii_alphanumeric y) y (mangled ys) e)
one_text (x ∷ xs) [] e = absurd (never_empty (is_ascii_alphanumeric x) x (mangled xs) (sym e))
one_text (x ∷ xs) (y ∷ ys) e = one_first x y xs ys (is_ascii_alphanumeric x) (is_ascii_alphanumeric y) refl refl (one_text xs ys) e
