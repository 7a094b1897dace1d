-- Tests of texts and of their bytes.
use Rattle.std.proofs.Common.{◌≡◌, ℕ, Bool, true, false, ◌==◌, List, [], ◌∷◌, length, refl, rules, tests, ◌++◌, ◌||◌, sym, ap, ◌∙◌}
use Rattle.std.specs.Str.{IsUtf8, is_utf8, bytes_eq}
use Rattle.std.proofs.lemmas.Str.{IsUtf8-from_is_utf8}
use Rattle.std.proofs.lemmas.Slice.Eq.{bytes_eq-Decides}
use Rattle.std.specs.List.{list_any}
use Rattle.std.proofs.lemmas.Bool.{eqb-true, false≢true}

pub bytes_eq-itself : (t : List ℕ) → bytes_eq t t ≡ true
bytes_eq-itself t = (bytes_eq-Decides t t).1 refl

-- the test for the empty text, as code makes it
pub bytes_eq_nil : (t : List ℕ) → bytes_eq t [] ≡ (length t == 0)
bytes_eq_nil [] = refl
bytes_eq_nil (b ∷ bs) = search (rules, tests)

-- the test for UTF-8 fails where a text isn't
pub is_utf8-from_not : (t : List ℕ) → (IsUtf8 t → ⊥) → is_utf8 t ≡ false
is_utf8-from_not t isnt = by (is_utf8 t) refl
  where
    by : (b : Bool) → is_utf8 t ≡ b → is_utf8 t ≡ false
    by true e = absurd (isnt (IsUtf8-from_is_utf8 t e))
    by false e = e

-- A byte that is none of these isn't any of them, and one of these is one of more

pub not_one : (special : List ℕ) (s b : ℕ) → list_any (λ c. c == s) special ≡ true → list_any (λ c. c == b) special ≡ false → b == s ≡ false
not_one special s b h e = by (b == s) refl
  where
    by : (v : Bool) → b == s ≡ v → v ≡ false
    by false q = refl
    by true q = sym (ap (λ x. list_any (λ c. c == x) special) (eqb-true b s q) ∙ h) ∙ e

pub one_of_more : (first more : List ℕ) (b : ℕ) → list_any (λ c. c == b) first ≡ true → list_any (λ c. c == b) (first ++ more) ≡ true
one_of_more [] more b h = absurd (false≢true h)
one_of_more (x ∷ first) more b h = by (x == b) h (λ r. one_of_more first more b r)
  where
    by : (v : Bool) → (v || list_any (λ c. c == b) first) ≡ true → (list_any (λ c. c == b) first ≡ true → list_any (λ c. c == b) (first ++ more) ≡ true) → (v || list_any (λ c. c == b) (first ++ more)) ≡ true
    by true e again = refl
    by false e again = again e
