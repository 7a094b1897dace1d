-- Expansions: the function finds those that stand behind a `$`.
use Rattle.std.proofs.Common.{◌≡◌, ◌⊎◌, ℕ, Bool, true, false, not, ◌&&◌, ◌||◌, IsTrue, ◌==◌, List, [], ◌∷◌, ◌++◌, length, take, drop, Option, Some, None, refl, sym, ◌∙◌, ap, subst, inl, inr, arith, All, append_assoc, take-append-drop, drop_at}
use Rattle.std.specs.List.{prefix_len}
use Rattle.std.proofs.lemmas.Bool.{cases_Bool}
use Rattle.std.proofs.lemmas.Bool.Decides.{eqb_tells, nat_tests}
use Rattle.std.proofs.lemmas.List.Elements.{All-cons, All-append, All-weaker, All-nil}
use Rattle.gn_basics.proofs.Tests.{first_true, second_true}
use Rattle.gn_tokens.specs.Bytes.{is_letter, is_word_byte, is_digit, is_hex_digit, begins, begins_with, IsWord, IsIdentifier, front_word, past_word, is_name}
use Rattle.gn_tokens.specs.Number.{IsDigits, IsDigitRun, IsInteger, integer_len}
use Rattle.gn_tokens.specs.Text.{Item, Plain, Escape, Hex, Variable, Braced, Element, Field, item_bytes, IsExpansion, is_hex, is_field, index_len, closes, closes_behind, is_braced_end, is_braced, expands, front_index, braced_item, hex_item, expansion_item}
use Rattle.gn_tokens.proofs.Words.{begins_with_tells, all_in_front, behind_fails, word_bytes, word_begins, word_past, name_here, name_is, word_whole}
use Rattle.gn_tokens.proofs.Numbers.{integer_is_run, integer_here, IsIntegerHere, integer_len_is, digit_no_letter, first_digit}

-- The bytes behind a `$` are those of the expansion, and then others.
abbrev pub Splits : List ℕ → Item → Type 0
Splits bs item = (later : List ℕ) × (36 ∷ bs ≡ item_bytes item ++ later) × IsExpansion item later

name_sound : (bs : List ℕ) → is_name bs ≡ true → Splits bs (Variable (front_word bs))
name_sound bs h = (past_word bs, ap (λ x. 36 ∷ x) (sym (word_whole bs)), (name_is bs h, behind_fails is_word_byte bs))

hex_sound : (bs : List ℕ) → is_hex bs ≡ true → Splits bs (hex_item bs)
hex_sound [] h = absurd cc
hex_sound (b ∷ []) h = absurd cc
hex_sound (b ∷ c ∷ []) h = absurd cc
hex_sound (b ∷ c ∷ d ∷ []) h = absurd cc
hex_sound (b ∷ c ∷ d ∷ e ∷ bs) h =
    let three = first_true ((b == 48 && c == 120) && is_hex_digit d) (is_hex_digit e) h in
    let two = first_true (b == 48 && c == 120) (is_hex_digit d) three in
    elim (eqb_tells b 48) [
      | inr x ↦ absurd (let k = x.0 in let l = first_true (b == 48) (c == 120) two in cc)
      | inl x ↦ elim (eqb_tells c 120) [
        | inr y ↦ absurd (let k = y.0 in let l = second_true (b == 48) (c == 120) two in cc)
        | inl y ↦ (
          bs,
          ap (λ z. 36 ∷ z ∷ c ∷ d ∷ e ∷ bs) x.1 ∙ ap (λ z. 36 ∷ 48 ∷ z ∷ d ∷ e ∷ bs) y.1,
          (second_true (b == 48 && c == 120) (is_hex_digit d) three, second_true ((b == 48 && c == 120) && is_hex_digit d) (is_hex_digit e) h),
        )
      ]
    ]

braced_sound : (name later : List ℕ) → IsIdentifier name → Splits (123 ∷ (name ++ 125 ∷ later)) (Braced name)
braced_sound name later h = (later, ap (λ x. 36 ∷ 123 ∷ x) (sym (append_assoc name (125 ∷ []) later)), h)

field_joined : (name field later : List ℕ) → (name ++ 46 ∷ (field ++ 125 ∷ [])) ++ later ≡ name ++ 46 ∷ (field ++ 125 ∷ later)
field_joined name field later = append_assoc name (46 ∷ (field ++ 125 ∷ [])) later ∙ ap (λ x. name ++ 46 ∷ x) (append_assoc field (125 ∷ []) later)

field_sound : (name r : List ℕ) → IsIdentifier name → is_field r ≡ true → Splits (123 ∷ (name ++ 46 ∷ r)) (Field name (front_word r))
field_sound name r h f =
    let end = begins_with_tells 125 (past_word r) (second_true (is_name r) (begins_with 125 (past_word r)) f) in
    let whole : r ≡ front_word r ++ 125 ∷ end.0 = sym (word_whole r) ∙ ap (λ x. front_word r ++ x) end.1 in (
      end.0,
      ap (λ x. 36 ∷ 123 ∷ (name ++ 46 ∷ x)) whole ∙ ap (λ x. 36 ∷ 123 ∷ x) (sym (field_joined name (front_word r) end.0)),
      (h, name_is r (first_true (is_name r) (begins_with 125 (past_word r)) f)),
    )

closes_tells : (bs : List ℕ) → closes bs ≡ true → (later : List ℕ) × (bs ≡ 93 ∷ 125 ∷ later)
closes_tells bs h =
    let one = begins_with_tells 93 bs (first_true (begins_with 93 bs) (begins_with 125 (drop 1 bs)) h) in
    let second : begins_with 125 (drop 1 bs) ≡ true = second_true (begins_with 93 bs) (begins_with 125 (drop 1 bs)) h in
    let two = begins_with_tells 125 one.0 (subst (λ x. begins_with 125 (drop 1 x) ≡ true) one.1 second) in
    (two.0, one.1 ∙ ap (λ x. 93 ∷ x) two.1)

index_sound : (bs : List ℕ) (n : ℕ) → index_len bs ≡ Some n → IsIdentifier (take n bs) ⊎ IsInteger (take n bs)
index_sound bs n h = elim (cases_Bool (begins is_letter bs)) [
  | inl l ↦ elim (cases_Bool (is_name bs)) [
    | inl m ↦ inl (let k : Some (prefix_len is_word_byte bs) ≡ Some n = rw (m, l) at h in let same : prefix_len is_word_byte bs ≡ n = cc in subst (λ x. IsIdentifier (take x bs)) same (name_is bs m))
    | inr m ↦ absurd (let k = rw (m, l) at h in cc)
  ]
  | inr l ↦ inr (let k : integer_len bs ≡ Some n = rw l at h in (subst (λ x. IsIntegerHere bs x) k (integer_len_is bs)).2)
]

element_joined : (name index later : List ℕ) → (name ++ 91 ∷ (index ++ 93 ∷ 125 ∷ [])) ++ later ≡ name ++ 91 ∷ (index ++ 93 ∷ 125 ∷ later)
element_joined name index later = append_assoc name (91 ∷ (index ++ 93 ∷ 125 ∷ [])) later ∙ ap (λ x. name ++ 91 ∷ x) (append_assoc index (93 ∷ 125 ∷ []) later)

element_sound : (name r : List ℕ) (len : Option ℕ) → IsIdentifier name → index_len r ≡ len → closes_behind len r ≡ true → Splits (123 ∷ (name ++ 91 ∷ r)) (Element name (front_index len r))
element_sound name r None h e f = absurd cc
element_sound name r (Some n) h e f =
    let end = closes_tells (drop n r) f in
    let whole : r ≡ take n r ++ 93 ∷ 125 ∷ end.0 = sym (take-append-drop n r) ∙ ap (λ x. take n r ++ x) end.1 in
    (end.0, ap (λ x. 36 ∷ 123 ∷ (name ++ 91 ∷ x)) whole ∙ ap (λ x. 36 ∷ 123 ∷ x) (sym (element_joined name (take n r) end.0)), (h, index_sound r n e))

end_sound : (name r : List ℕ) → IsIdentifier name → is_braced_end r ≡ true → Splits (123 ∷ (name ++ r)) (braced_item name r)
end_sound name [] h f = absurd cc
end_sound name (b ∷ r) h f = elim (eqb_tells b 125) [
  | inl x ↦ subst (λ z. Splits (123 ∷ (name ++ z ∷ r)) (braced_item name (z ∷ r))) (sym x.1) (braced_sound name r h)
  | inr x ↦ elim (eqb_tells b 46) [
    | inl y ↦ subst (λ z. is_braced_end (z ∷ r) ≡ true → Splits (123 ∷ (name ++ z ∷ r)) (braced_item name (z ∷ r))) (sym y.1) (field_sound name r h) f
    | inr y ↦ elim (eqb_tells b 91) [
      | inl w ↦ subst (λ z. is_braced_end (z ∷ r) ≡ true → Splits (123 ∷ (name ++ z ∷ r)) (braced_item name (z ∷ r))) (sym w.1) (element_sound name r (index_len r) h refl) f
      | inr w ↦ absurd (let k = rw (x.0, y.0, w.0) at f in cc)
    ]
  ]
]

-- What the function takes for an expansion is one.
pub expands_sound : (bs : List ℕ) → expands bs ≡ true → Splits bs (expansion_item bs)
expands_sound bs h = elim (cases_Bool (begins_with 123 bs)) [
  | inl b ↦
      let open_brace = begins_with_tells 123 bs b in
      let cs = open_brace.0 in
      let inner : is_braced cs ≡ true = subst (λ x. expands x ≡ true) open_brace.1 h in
      let name : IsIdentifier (front_word cs) = name_is cs (first_true (is_name cs) (is_braced_end (past_word cs)) inner) in
      let found = end_sound (front_word cs) (past_word cs) name (second_true (is_name cs) (is_braced_end (past_word cs)) inner) in
      subst (λ x. Splits x (expansion_item x)) (sym open_brace.1) (subst (λ x. Splits (123 ∷ x) (braced_item (front_word cs) (past_word cs))) (word_whole cs) found)
  | inr b ↦ elim (cases_Bool (is_name bs)) [
    | inl n ↦ rw (b, n) (name_sound bs n)
    | inr n ↦ rw (b, n) (hex_sound bs (let k : is_hex bs ≡ true = rw (b, n) at h in k))
  ]
]

letter_no_brace : (b : ℕ) → is_letter b ≡ true → (b == 123) ≡ false
letter_no_brace b h = grind (arith, nat_tests)

no_brace : (w rest : List ℕ) → IsWord w → begins_with 123 (w ++ rest) ≡ false
no_brace [] rest h = absurd h
no_brace (b ∷ w) rest h = letter_no_brace b h.0

integer_no_letter : (w rest : List ℕ) → IsDigitRun w → begins is_letter (w ++ rest) ≡ false
integer_no_letter [] rest (inl h) = absurd h
integer_no_letter [] rest (inr (ds, e, h)) = absurd cc
integer_no_letter (b ∷ w) rest (inl h) = digit_no_letter b (first_digit b w h)
integer_no_letter (b ∷ w) rest (inr (ds, e, h)) = let first : b ≡ 45 = cc in rw first refl

index_here : (index later : List ℕ) → IsIdentifier index ⊎ IsInteger index → index_len (index ++ 93 ∷ 125 ∷ later) ≡ Some (length index)
index_here index later (inl h) =
    let n : prefix_len is_word_byte (index ++ 93 ∷ 125 ∷ later) ≡ length index = all_in_front is_word_byte index (93 ∷ 125 ∷ later) (word_bytes index h.0) refl in
    rw (name_here index (93 ∷ 125 ∷ later) h refl, word_begins index (93 ∷ 125 ∷ later) h.0, n) refl
index_here index later (inr h) =
    rw (integer_no_letter index (93 ∷ 125 ∷ later) (integer_is_run index h)) (integer_here index (93 ∷ 125 ∷ later) h refl refl)

braced_here : (name rest : List ℕ) → IsIdentifier name → begins is_word_byte rest ≡ false → is_braced_end rest ≡ true → expands (123 ∷ (name ++ rest)) ≡ true
braced_here name rest h stop end = rw (name_here name rest h stop, word_past name rest h.0 stop) end

-- What is an expansion the function takes for one.
pub expands_complete : (item : Item) (rest bs : List ℕ) → IsExpansion item rest → 36 ∷ bs ≡ item_bytes item ++ rest → expands bs ≡ true
expands_complete (Plain b) rest bs h e = absurd h
expands_complete (Escape b) rest bs h e = absurd h
expands_complete (Hex high low) rest bs h e =
    let same : bs ≡ 48 ∷ 120 ∷ high ∷ low ∷ rest = ap (drop 1) e in
    ap expands same ∙ rw (h.0, h.1) refl
expands_complete (Variable name) rest bs h e =
    let same : bs ≡ name ++ rest = ap (drop 1) e in
    ap expands same ∙ rw (no_brace name rest h.0.0, name_here name rest h.0 h.1) refl
expands_complete (Braced name) rest bs h e =
    let same : bs ≡ 123 ∷ (name ++ 125 ∷ rest) = ap (drop 1) e ∙ ap (λ x. 123 ∷ x) (append_assoc name (125 ∷ []) rest) in
    ap expands same ∙ braced_here name (125 ∷ rest) h refl refl
expands_complete (Element name index) rest bs h e =
    let same : bs ≡ 123 ∷ (name ++ 91 ∷ (index ++ 93 ∷ 125 ∷ rest)) = ap (drop 1) e ∙ ap (λ x. 123 ∷ x) (element_joined name index rest) in
    ap expands same ∙ braced_here name (91 ∷ (index ++ 93 ∷ 125 ∷ rest)) h.0 refl (rw (index_here index rest h.1, drop_at index (93 ∷ 125 ∷ rest) (length index) refl) refl)
expands_complete (Field name field) rest bs h e =
    let same : bs ≡ 123 ∷ (name ++ 46 ∷ (field ++ 125 ∷ rest)) = ap (drop 1) e ∙ ap (λ x. 123 ∷ x) (field_joined name field rest) in
    ap expands same ∙ braced_here name (46 ∷ (field ++ 125 ∷ rest)) h.0 refl (rw (name_here field (125 ∷ rest) h.1 refl, word_past field (125 ∷ rest) h.1.0 refl) refl)

-- The bytes of an expansion.

-- no `"`, newline, backslash or `$`
abbrev pub is_ordinary : ℕ → Bool
is_ordinary b = not (b == 34 || b == 10 || b == 92 || b == 36)

abbrev pub AllOrdinary : List ℕ → Type 0
AllOrdinary bs = All (λ c. IsTrue (is_ordinary c)) bs

word_byte_ordinary : (b : ℕ) → is_word_byte b ≡ true → is_ordinary b ≡ true
word_byte_ordinary b h = grind (arith, nat_tests)

digit_ordinary : (b : ℕ) → is_digit b ≡ true → is_ordinary b ≡ true
digit_ordinary b h = grind (arith, nat_tests)

hex_ordinary : (b : ℕ) → is_hex_digit b ≡ true → is_ordinary b ≡ true
hex_ordinary b h = grind (arith, nat_tests)

cons : (b : ℕ) (bs : List ℕ) → is_ordinary b ≡ true → AllOrdinary bs → AllOrdinary (b ∷ bs)
cons b bs h rest = All-cons (λ c. IsTrue (is_ordinary c)) b bs h rest

none : AllOrdinary []
none = All-nil (λ c. IsTrue (is_ordinary c))

join : (xs ys : List ℕ) → AllOrdinary xs → AllOrdinary ys → AllOrdinary (xs ++ ys)
join xs ys = All-append (λ c. IsTrue (is_ordinary c)) xs ys

word_ordinary : (w : List ℕ) → IsWord w → AllOrdinary w
word_ordinary w h = All-weaker (λ c. IsTrue (is_word_byte c)) (λ c. IsTrue (is_ordinary c)) word_byte_ordinary w (word_bytes w h)

digits_ordinary : (ds : List ℕ) → IsDigits ds → AllOrdinary ds
digits_ordinary [] h = absurd h
digits_ordinary (d ∷ ds) h = All-weaker (λ c. IsTrue (is_digit c)) (λ c. IsTrue (is_ordinary c)) digit_ordinary (d ∷ ds) h

run_ordinary : (w : List ℕ) → IsDigitRun w → AllOrdinary w
run_ordinary w (inl h) = digits_ordinary w h
run_ordinary w (inr (ds, e, h)) = subst AllOrdinary (sym e) (cons 45 ds refl (digits_ordinary ds h))

index_ordinary : (index : List ℕ) → IsIdentifier index ⊎ IsInteger index → AllOrdinary index
index_ordinary index (inl h) = word_ordinary index h.0
index_ordinary index (inr h) = run_ordinary index (integer_is_run index h)

-- the bytes of an item behind its first one
abbrev pub behind_first : Item → List ℕ
behind_first item = drop 1 (item_bytes item)

pub expansion_ordinary : (item : Item) (rest : List ℕ) → IsExpansion item rest → AllOrdinary (behind_first item)
expansion_ordinary (Plain b) rest h = absurd h
expansion_ordinary (Escape b) rest h = absurd h
expansion_ordinary (Hex high low) rest h = cons 48 (120 ∷ high ∷ low ∷ []) refl (cons 120 (high ∷ low ∷ []) refl (cons high (low ∷ []) (hex_ordinary high h.0) (cons low [] (hex_ordinary low h.1) none)))
expansion_ordinary (Variable name) rest h = word_ordinary name h.0.0
expansion_ordinary (Braced name) rest h = cons 123 (name ++ 125 ∷ []) refl (join name (125 ∷ []) (word_ordinary name h.0) (cons 125 [] refl none))
expansion_ordinary (Element name index) rest h =
    cons 123 (name ++ 91 ∷ (index ++ 93 ∷ 125 ∷ [])) refl (join name (91 ∷ (index ++ 93 ∷ 125 ∷ [])) (word_ordinary name h.0.0)
    (cons 91 (index ++ 93 ∷ 125 ∷ []) refl (join index (93 ∷ 125 ∷ []) (index_ordinary index h.1) (cons 93 (125 ∷ []) refl (cons 125 [] refl none)))))
expansion_ordinary (Field name field) rest h =
    cons 123 (name ++ 46 ∷ (field ++ 125 ∷ [])) refl (join name (46 ∷ (field ++ 125 ∷ [])) (word_ordinary name h.0.0)
    (cons 46 (field ++ 125 ∷ []) refl (join field (125 ∷ []) (word_ordinary field h.1.0) (cons 125 [] refl none))))

pub dollar_first : (item : Item) (rest : List ℕ) → IsExpansion item rest → item_bytes item ≡ 36 ∷ behind_first item
dollar_first (Plain b) rest h = absurd h
dollar_first (Escape b) rest h = absurd h
dollar_first (Hex high low) rest h = refl
dollar_first (Variable name) rest h = refl
dollar_first (Braced name) rest h = refl
dollar_first (Element name index) rest h = refl
dollar_first (Field name field) rest h = refl
