-- Words: how far they go, and which of them are identifiers.
use Rattle.std.proofs.Common.{◌≡◌, ◌≢◌, ◌⊎◌, ℕ, zero, suc, ◌+◌, ◌<◌, ◌≤◌, Bool, true, false, not, ◌||◌, IsTrue, ◌==◌, List, [], ◌∷◌, ◌++◌, length, take, drop, codes, refl, sym, ap, inl, inr, arith, All, length-take, get_or-take, take-append-drop, drop_at, take_at}
use Rattle.std.specs.List.{prefix_len}
use Rattle.std.proofs.lemmas.Bool.{cases_Bool, not-true}
use Rattle.std.proofs.lemmas.Bool.Decides.{eqb_tells, nat_tests}
use Rattle.std.proofs.lemmas.List.Elements.{All-cons, All-tail}
use Rattle.std.proofs.lemmas.List.Sums.{prefix_len_passes}
use Rattle.gn_basics.proofs.Tests.{first_true, second_true}
use Rattle.gn_tokens.specs.Bytes.{is_letter, is_word_byte, begins, begins_with, IsWord, IsIdentifier, front_word, past_word, is_text, is_reserved, is_name}

pub or_true : (x y : Bool) → (x || y) ≡ true → (x ≡ true) ⊎ ((x ≡ false) × (y ≡ true))
or_true true y h = inl refl
or_true false y h = inr (refl, h)

pub not_false : (x : Bool) → not x ≡ false → x ≡ true
not_false true h = refl
not_false false h = cc

pub begins_with_tells : (c : ℕ) (bs : List ℕ) → begins_with c bs ≡ true → (rest : List ℕ) × (bs ≡ c ∷ rest)
begins_with_tells c [] h = absurd cc
begins_with_tells c (b ∷ bs) h = elim (eqb_tells b c) [
  | inl e ↦ (bs, ap (λ x. x ∷ bs) e.1)
  | inr e ↦ absurd (let k = e.0 in cc)
]

-- Bytes that all pass, in front of one that does not.
pub all_in_front : (p : ℕ → Bool) (w rest : List ℕ) → All (λ c. IsTrue (p c)) w → begins p rest ≡ false → prefix_len p (w ++ rest) ≡ length w
all_in_front p [] [] h stop = refl
all_in_front p [] (b ∷ rest) h stop = rw stop refl
all_in_front p (b ∷ w) rest h stop =
    let more = all_in_front p w rest (All-tail (λ c. IsTrue (p c)) b w h) stop in
    let first : p b ≡ true = h 0 0 (omega arith) in
    rw first (omega arith)

-- Bytes that all pass are no more than those that pass at the front.
pub passing : (p : ℕ → Bool) (m : ℕ) (bs : List ℕ) → m ≤ length bs → All (λ c. IsTrue (p c)) (take m bs) → m ≤ prefix_len p bs
passing p zero bs le h = omega arith
passing p (suc m) [] le h = omega arith
passing p (suc m) (b ∷ bs) le h =
    let more = passing p m bs (omega arith) (All-tail (λ c. IsTrue (p c)) b (take m bs) h) in
    let first : p b ≡ true = h 0 0 (omega arith) in
    rw first (omega arith)

-- The bytes at the front that pass all pass.
pub all_pass : (p : ℕ → Bool) (bs : List ℕ) → All (λ c. IsTrue (p c)) (take (prefix_len p bs) bs)
all_pass p bs i d lt =
    let short : i < prefix_len p bs = omega (arith, length-take (prefix_len p bs) bs) in
    rw (get_or-take (prefix_len p bs) bs i d short) (prefix_len_passes p bs i d short)

-- What stands behind them does not.
pub behind_fails : (p : ℕ → Bool) (bs : List ℕ) → begins p (drop (prefix_len p bs) bs) ≡ false
behind_fails p [] = refl
behind_fails p (b ∷ bs) = elim (cases_Bool (p b)) [
  | inl h ↦ rw h (let e : 1 + prefix_len p bs ≡ suc (prefix_len p bs) = omega arith in rw e (behind_fails p bs))
  | inr h ↦ rw h h
]

pub letter_in_word : (b : ℕ) → is_letter b ≡ true → is_word_byte b ≡ true
letter_in_word b h = grind (arith, nat_tests)

pub word_bytes : (w : List ℕ) → IsWord w → All (λ c. IsTrue (is_word_byte c)) w
word_bytes [] h = absurd h
word_bytes (b ∷ w) h = All-cons (λ c. IsTrue (is_word_byte c)) b w (letter_in_word b h.0) h.1

pub word_begins : (w rest : List ℕ) → IsWord w → begins is_letter (w ++ rest) ≡ true
word_begins [] rest h = absurd h
word_begins (b ∷ w) rest h = h.0

pub word_front : (w rest : List ℕ) → IsWord w → begins is_word_byte rest ≡ false → front_word (w ++ rest) ≡ w
word_front w rest h stop = take_at w rest (prefix_len is_word_byte (w ++ rest)) (sym (all_in_front is_word_byte w rest (word_bytes w h) stop))

pub word_past : (w rest : List ℕ) → IsWord w → begins is_word_byte rest ≡ false → past_word (w ++ rest) ≡ rest
word_past w rest h stop = drop_at w rest (prefix_len is_word_byte (w ++ rest)) (sym (all_in_front is_word_byte w rest (word_bytes w h) stop))

-- The word at the front is one.
pub front_is_word : (bs : List ℕ) → begins is_letter bs ≡ true → IsWord (front_word bs)
front_is_word [] h = absurd cc
front_is_word (b ∷ bs) h =
    let e : prefix_len is_word_byte (b ∷ bs) ≡ suc (prefix_len is_word_byte bs) = rw (letter_in_word b h) (omega arith) in
    rw e (h, all_pass is_word_byte bs)

pub is_text_same : (c w : List ℕ) → is_text c w ≡ true → w ≡ c
is_text_same [] [] h = refl
is_text_same [] (b ∷ w) h = cc
is_text_same (x ∷ c) [] h = cc
is_text_same (x ∷ c) (b ∷ w) h = elim (eqb_tells b x) [
  | inl e ↦ let rest : w ≡ c = is_text_same c w (second_true (b == x) (is_text c w) h) in let first = e.1 in cc
  | inr e ↦ absurd (let k = e.0 in let l = first_true (b == x) (is_text c w) h in cc)
]

-- A word that is not reserved.
pub is_identifier : (w : List ℕ) → IsWord w → is_reserved w ≡ false → IsIdentifier w
is_identifier w h free = (
  h,
  λ e. (let t : is_reserved w ≡ true = ap is_reserved e in cc),
  λ e. (let t : is_reserved w ≡ true = ap is_reserved e in cc),
  λ e. (let t : is_reserved w ≡ true = ap is_reserved e in cc),
  λ e. (let t : is_reserved w ≡ true = ap is_reserved e in cc),
)

pub not_text : (c w : List ℕ) → w ≢ c → is_text c w ≡ false
not_text c w ne = elim (cases_Bool (is_text c w)) [
  | inl h ↦ absurd (ne (is_text_same c w h))
  | inr h ↦ h
]

pub is_free : (w : List ℕ) → IsIdentifier w → is_reserved w ≡ false
is_free w h =
    rw (not_text (codes "if") w h.1, not_text (codes "else") w h.2, not_text (codes "true") w h.3, not_text (codes "false") w h.4) refl

-- An identifier is a name, where no more of a word comes behind it.
pub name_here : (w rest : List ℕ) → IsIdentifier w → begins is_word_byte rest ≡ false → is_name (w ++ rest) ≡ true
name_here w rest h stop =
    let first : begins is_letter (w ++ rest) ≡ true = word_begins w rest h.0 in
    let word : front_word (w ++ rest) ≡ w = word_front w rest h.0 stop in
    rw (first, word, is_free w h) refl

-- A name is an identifier.
pub name_is : (bs : List ℕ) → is_name bs ≡ true → IsIdentifier (front_word bs)
name_is bs h =
    is_identifier (front_word bs) (front_is_word bs (first_true (begins is_letter bs) (not (is_reserved (front_word bs))) h))
    (not-true (is_reserved (front_word bs)) (second_true (begins is_letter bs) (not (is_reserved (front_word bs))) h))

pub word_whole : (bs : List ℕ) → front_word bs ++ past_word bs ≡ bs
word_whole bs = take-append-drop (prefix_len is_word_byte bs) bs
