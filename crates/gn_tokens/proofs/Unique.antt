-- There is one right answer.
use Rattle.std.proofs.Common.{◌≡◌, ◌≢◌, ◌⊎◌, ℕ, zero, suc, ◌+◌, ◌-◌, ◌<◌, ◌≤◌, Bool, true, false, not, ◌&&◌, ◌||◌, IsTrue, eqb, ◌==◌, if◌then◌else◌, List, [], ◌∷◌, ◌++◌, length, take, drop, codes, Option, Some, None, Result, Ok, Err, slice_index, refl, sym, ◌∙◌, ap, subst, inl, inr, arith, All, length-append, length-drop, length-take-le, take-append-drop, append_assoc, drop_at, drop-drop, get_or-drop}
use Rattle.std.proofs.lemmas.Bool.{cases_Bool}
use Rattle.std.proofs.lemmas.Bool.Decides.{eqb_tells, nat_tests}
use Rattle.std.proofs.lemmas.List.Elements.{All-head, All-tail, All-from_recursion}
use Rattle.std.proofs.lemmas.List.{append-nil}
use Rattle.gn_basics.proofs.Tests.{first_true}
use Rattle.gn_tokens.specs.declared.token.Token.{Token}
use Rattle.gn_tokens.specs.declared.token.TokenError.{TokenError}
use Rattle.gn_tokens.specs.declared.token.TokenError.TheVariants.{BadByte, BadNumber, OpenString, BadDollar}
use Rattle.gn_tokens.specs.declared.token.TokenKind.{TokenKind}
use Rattle.gn_tokens.specs.declared.token.TokenKind.TheVariants as k
use Rattle.gn_tokens.specs.Bytes.{is_letter, is_word_byte, is_digit, is_white, is_escapable, begins, begins_with}
use Rattle.gn_tokens.specs.Number.{IsInteger, IsDigitRun, IsBadRun, begins_run, run_len}
use Rattle.gn_tokens.specs.Text.{Item, Plain, Escape, Hex, Variable, Braced, Element, Field, item_bytes, IsExpansion, IsLone, IsItem, Reads, AllExpand, IsString, IsOpen, IsBadDollarBehind, is_stop, expands, text_len, further, first_bad, expansion_item}
use Rattle.gn_tokens.specs.Token.{IsGap, nothing, white, comment, IsToken}
use Rattle.gn_tokens.specs.Front.{Front, Found, WrongByte, WrongNumber, NotClosed, WrongDollar, gap_len, word_kind, front_number, front_closed, front_string, front_mark, front_of}
use Rattle.gn_tokens.specs.Next.{Reader, IsNext, IsNextToken, IsBadByte, IsBadNumber, IsOpenString, IsBadDollar, IsOnlyGap, front_answer, answer, next_token}
use Rattle.gn_tokens.proofs.Words.{or_true, not_text}
use Rattle.gn_tokens.proofs.Numbers.{integer_is_run, bad_run_here, run_at_most}
use Rattle.gn_tokens.proofs.Expansions.{Splits, expands_sound, expands_complete, expansion_ordinary, dollar_first, behind_first}
use Rattle.gn_tokens.proofs.Texts.{bad_over, further_more, bad_no_escape, further_none}
use Rattle.gn_tokens.proofs.Longest.{begins_longer, item_len, reads_some, front_of_run, run_no_letter, IsFront, front_is, IsAtMost, at_most}

-- Gaps.

comment_over : (text bs rest : List ℕ) → All (λ c. c ≢ 10) text → gap_len true ((text ++ 10 ∷ bs) ++ rest) ≡ length text + 1 + gap_len false (bs ++ rest)
comment_over [] bs rest h = omega arith
comment_over (b ∷ text) bs rest h =
    let more = comment_over text bs rest (All-tail (λ c. c ≢ 10) b text h) in
    elim (eqb_tells b 10) [
      | inl e ↦ absurd (All-head (λ c. c ≢ 10) b text h e.1)
      | inr e ↦ rw e.0 (omega (arith, more))
    ]

white_no_comment : (b : ℕ) → is_white b ≡ true → (b == 35) ≡ false
white_no_comment b h = grind (arith, nat_tests)

gap_over : {g : List ℕ} (rest : List ℕ) → IsGap g → gap_len false (g ++ rest) ≡ length g + gap_len false rest
gap_over rest nothing = omega arith
gap_over rest (white b bs w h) = rw (white_no_comment b w, w) (omega (arith, gap_over rest h))
gap_over rest (comment text bs plain h) = omega (arith, comment_over text bs rest plain, gap_over rest h, length-append text (10 ∷ bs))

gap_within : (in_comment : Bool) (bs : List ℕ) → gap_len in_comment bs ≤ length bs
gap_within true [] = omega arith
gap_within false [] = omega arith
gap_within true (b ∷ bs) = omega (arith, gap_within (not (b == 10)) bs)
gap_within false (b ∷ bs) = elim (cases_Bool (b == 35)) [
  | inl c ↦ rw c (omega (arith, gap_within true bs))
  | inr c ↦ elim (cases_Bool (is_white b)) [
    | inl w ↦ rw (c, w) (omega (arith, gap_within false bs))
    | inr w ↦ rw (c, w) (omega arith)
  ]
]

-- A gap that ends within the bytes ends there whatever comes behind.
gap_short : (in_comment : Bool) (bs more : List ℕ) → gap_len in_comment bs < length bs → gap_len in_comment (bs ++ more) ≡ gap_len in_comment bs
gap_short true [] more h = absurd (omega arith)
gap_short false [] more h = absurd (omega arith)
gap_short true (b ∷ bs) more h = ap suc (gap_short (not (b == 10)) bs more (omega arith))
gap_short false (b ∷ bs) more h = elim (cases_Bool (b == 35)) [
  | inl c ↦ rw c (ap suc (gap_short true bs more (let x = rw c at h in omega arith)))
  | inr c ↦ elim (cases_Bool (is_white b)) [
    | inl w ↦ rw (c, w) (ap suc (gap_short false bs more (let x = rw (c, w) at h in omega arith)))
    | inr w ↦ rw (c, w) refl
  ]
]

only_gap : (bs : List ℕ) → IsGap (bs ++ 10 ∷ []) → gap_len false bs ≡ length bs
only_gap bs h =
    let whole : gap_len false (bs ++ 10 ∷ []) ≡ length bs + 1 = ap (gap_len false) (sym (append-nil (bs ++ 10 ∷ []))) ∙ gap_over [] h ∙ omega (arith, length-append bs (10 ∷ [])) in
    elim (cases_Bool (eqb (gap_len false bs) (length bs))) [
      | inl e ↦ elim (eqb_tells (gap_len false bs) (length bs)) [ inl x ↦ x.1 | inr x ↦ absurd (let y = x.0 in cc) ]
      | inr e ↦ elim (eqb_tells (gap_len false bs) (length bs)) [
        | inl x ↦ x.1
        | inr x ↦ absurd (let y = x.1 in let lt : gap_len false bs < length bs = omega (arith, gap_within false bs) in omega (arith, gap_short false bs (10 ∷ []) lt, whole))
      ]
    ]

-- What stands behind a gap is no part of it.
gap_end : (b : ℕ) (bs : List ℕ) → is_white b ≡ false → b ≢ 35 → gap_len false (b ∷ bs) ≡ 0
gap_end b bs w c = elim (eqb_tells b 35) [
  | inl e ↦ absurd (c e.1)
  | inr e ↦ rw (e.0, w) refl
]

place_is : (bytes : List ℕ) (at start b : ℕ) (bs : List ℕ) → at ≤ start → IsGap (take (start - at) (drop at bytes)) → drop start bytes ≡ b ∷ bs → is_white b ≡ false → b ≢ 35 →
    at + gap_len false (drop at bytes) ≡ start
place_is bytes at start b bs le gap rest w c =
    let n = start - at in
    let sum : at + n ≡ start = omega arith in
    let later : drop n (drop at bytes) ≡ b ∷ bs = drop-drop n at bytes ∙ ap (λ x. drop x bytes) sum ∙ rest in
    let whole : take n (drop at bytes) ++ (b ∷ bs) ≡ drop at bytes = ap (λ x. take n (drop at bytes) ++ x) (sym later) ∙ take-append-drop n (drop at bytes) in
    let fits : n ≤ length (drop at bytes) = omega (arith, length-drop at bytes, length-drop start bytes, ap length rest) in
    let size : length (take n (drop at bytes)) ≡ n = length-take-le n (drop at bytes) fits in
    let found : gap_len false (drop at bytes) ≡ n = ap (gap_len false) (sym whole) ∙ gap_over (b ∷ bs) gap ∙ omega (arith, size, gap_end b bs w c) in
    omega (arith, found)

-- Strings.

plain_bad : (b : ℕ) (bs : List ℕ) → b ≢ 34 → b ≢ 10 → b ≢ 36 → (b ≡ 92 → begins is_escapable bs ≡ false) → first_bad false (b ∷ bs) ≡ further 1 (first_bad false bs)
plain_bad b bs q n d esc =
    let inside : is_stop b ≡ false = grind (arith, nat_tests) in
    let no_dollar : (b == 36) ≡ false = grind (arith, nat_tests) in
    elim (eqb_tells b 92) [
      | inl e ↦ rw (inside, no_dollar, e.0) (ap (further 1) (bad_no_escape bs (esc e.1)))
      | inr e ↦ rw (inside, no_dollar, e.0) refl
    ]

expansion_bad : (item : Item) (later : List ℕ) → IsExpansion item later → first_bad false (item_bytes item ++ later) ≡ further (length (item_bytes item)) (first_bad false later)
expansion_bad item later h =
    let chunk = behind_first item in
    let first : item_bytes item ≡ 36 ∷ chunk = dollar_first item later h in
    let good : expands (chunk ++ later) ≡ true = expands_complete item later (chunk ++ later) h (ap (λ x. x ++ later) (sym first)) in
    let over : first_bad false (chunk ++ later) ≡ further (length chunk) (first_bad false later) = bad_over chunk later (expansion_ordinary item later h) in
    let here : first_bad false (36 ∷ (chunk ++ later)) ≡ further (suc (length chunk)) (first_bad false later) = rw good (ap (further 1) over ∙ further_more (length chunk) (first_bad false later)) in
    ap (λ x. first_bad false (x ++ later)) first ∙ here ∙ ap (λ x. further x (first_bad false later)) (sym (ap length first))

item_bad : (item : Item) (later : List ℕ) → IsItem item later → item ≢ Plain 36 → first_bad false (item_bytes item ++ later) ≡ further (length (item_bytes item)) (first_bad false later)
item_bad (Plain b) later h ne = plain_bad b later h.0 h.1 (λ e. ne (ap Plain e)) h.2
item_bad (Escape b) later h ne = rw h (further_more 1 (first_bad false later))
item_bad (Hex high low) later h ne = expansion_bad (Hex high low) later h
item_bad (Variable name) later h ne = expansion_bad (Variable name) later h
item_bad (Braced name) later h ne = expansion_bad (Braced name) later h
item_bad (Element name index) later h ne = expansion_bad (Element name index) later h
item_bad (Field name field) later h ne = expansion_bad (Field name field) later h

further_sum : (n m : ℕ) (x : Option ℕ) → further n (further m x) ≡ further (n + m) x
further_sum n m None = refl
further_sum n m (Some i) = ap Some (omega arith)

pub record IsPassed (items : List Item) (bs rest : List ℕ) : Type 0 where
  pub front : List ℕ
  pub bytes : bs ≡ front ++ rest
  pub len : text_len false bs ≡ length front + text_len false rest
  pub bad : AllExpand items → first_bad false bs ≡ further (length front) (first_bad false rest)

pub passed : (items : List Item) (bs rest : List ℕ) → Reads items bs rest → IsPassed items bs rest
passed [] bs rest h = record { front = []; bytes = h; len = ap (text_len false) h ∙ omega arith; bad = λ _. ap (first_bad false) h ∙ sym (further_none (first_bad false rest)) }
passed (item ∷ items) bs rest (later, bytes, is_item, reads) =
    let inner = passed items later rest reads in
    let size = length-append (item_bytes item) inner.front in
    record {
      front = item_bytes item ++ inner.front;
      bytes = bytes ∙ ap (λ x. item_bytes item ++ x) inner.bytes ∙ sym (append_assoc (item_bytes item) inner.front rest);
      len = ap (text_len false) bytes ∙ item_len item later later is_item refl ∙ omega (arith, inner.len, size);
      bad = λ good. ap (first_bad false) bytes ∙ item_bad item later is_item (All-head (λ x. x ≢ Plain 36) item items good)
          ∙ ap (further (length (item_bytes item))) (inner.bad (All-tail (λ x. x ≢ Plain 36) item items good))
          ∙ further_sum (length (item_bytes item)) (length inner.front) (first_bad false rest) ∙ ap (λ x. further x (first_bad false rest)) (sym size);
    }

item_extend : (item : Item) (later more : List ℕ) → item ≢ Plain 36 → 1 ≤ length later → IsItem item later → IsItem item (later ++ more)
item_extend (Plain b) later more ne some h = (h.0, h.1, λ x. begins_longer is_escapable later more some ∙ h.2 x, λ x. absurd (ne (ap Plain x)))
item_extend (Escape b) later more ne some h = h
item_extend (Hex high low) later more ne some h = h
item_extend (Variable name) later more ne some h = (h.0, begins_longer is_word_byte later more some ∙ h.1)
item_extend (Braced name) later more ne some h = h
item_extend (Element name index) later more ne some h = h
item_extend (Field name field) later more ne some h = h

extend : (items : List Item) (bs more : List ℕ) → Reads items bs (34 ∷ []) → AllExpand items → Reads items (bs ++ more) (34 ∷ more)
extend [] bs more h good = ap (λ x. x ++ more) h
extend (item ∷ items) bs more (later, bytes, is_item, reads) good = (
  later ++ more,
  ap (λ x. x ++ more) bytes ∙ append_assoc (item_bytes item) later more,
  item_extend item later more (All-head (λ x. x ≢ Plain 36) item items good) (reads_some items later reads) is_item,
  extend items later more reads (All-tail (λ x. x ≢ Plain 36) item items good),
)

closed_front : (items : List Item) (bs rest : List ℕ) → Reads items bs (34 ∷ rest) → front_string (text_len false bs) bs ≡ front_closed (text_len false bs) (first_bad false bs)
closed_front items bs rest h =
    let p = passed items bs (34 ∷ rest) h in
    let back : drop (text_len false bs) bs ≡ 34 ∷ rest = ap (drop (text_len false bs)) p.bytes ∙ drop_at p.front (34 ∷ rest) (text_len false bs) (omega (arith, p.len)) in
    rw back refl

string_unique : (m b : ℕ) (bs : List ℕ) → m ≤ length (b ∷ bs) → IsString (take m (b ∷ bs)) → front_of b bs ≡ Found k.Str m
string_unique zero b bs le (items, text, e, reads, good) = absurd cc
string_unique (suc m) b bs le (items, text, e, reads, good) =
    let same : b ≡ 34 = cc in
    let front : take m bs ≡ text = cc in
    let whole : text ++ drop m bs ≡ bs = ap (λ x. x ++ drop m bs) (sym front) ∙ take-append-drop m bs in
    let long : Reads items bs (34 ∷ drop m bs) = subst (λ x. Reads items x (34 ∷ drop m bs)) whole (extend items text (drop m bs) reads good) in
    let p = passed items bs (34 ∷ drop m bs) long in
    let fine : first_bad false bs ≡ None = p.bad good in
    let size : length bs ≡ text_len false bs + 1 + length (drop m bs) = ap length p.bytes ∙ length-append p.front (34 ∷ drop m bs) ∙ omega (arith, p.len) in
    let len : text_len false bs + 2 ≡ suc m = omega (arith, size, length-drop m bs) in
    ap (λ x. front_of x bs) same ∙ closed_front items bs (drop m bs) long ∙ ap (front_closed (text_len false bs)) fine ∙ ap (Found k.Str) len

stop_here : (rest : List ℕ) → (rest ≡ []) ⊎ (begins_with 10 rest ≡ true) → (text_len false rest ≡ 0) × (begins_with 34 rest ≡ false)
stop_here [] h = (refl, refl)
stop_here (b ∷ rest) (inl e) = absurd cc
stop_here (b ∷ rest) (inr e) = elim (eqb_tells b 10) [
  | inl x ↦ subst (λ y. (text_len false (y ∷ rest) ≡ 0) × (begins_with 34 (y ∷ rest) ≡ false)) (sym x.1) (refl, refl)
  | inr x ↦ absurd (let y = x.0 in cc)
]

open_unique : (b : ℕ) (bs : List ℕ) → IsOpen (b ∷ bs) → front_of b bs ≡ NotClosed
open_unique b bs (items, text, rest, e, reads, ends) =
    let same : b ≡ 34 = cc in
    let front : bs ≡ text = cc in
    let p = passed items text rest reads in
    let stop = stop_here rest ends in
    let back : drop (text_len false text) text ≡ rest = ap (drop (text_len false text)) p.bytes ∙ drop_at p.front rest (text_len false text) (omega (arith, p.len, stop.0)) in
    ap (λ x. front_of x bs) same ∙ ap (λ x. front_string (text_len false x) x) front ∙ rw (back, stop.1) refl

lone_bad : (dollar : List ℕ) → IsLone (36 ∷ dollar) → first_bad false (36 ∷ dollar) ≡ Some 0
lone_bad dollar lone = elim (cases_Bool (expands dollar)) [
  | inl h ↦ absurd (let s : Splits dollar (expansion_item dollar) = expands_sound dollar h in lone (expansion_item dollar) s.0 s.2 s.1)
  | inr h ↦ rw h refl
]

dollar_unique : (b : ℕ) (bs : List ℕ) (len : ℕ) → IsBadDollarBehind (b ∷ bs) len → front_of b bs ≡ WrongDollar len
dollar_unique b bs len bad =
    let same : b ≡ 34 = ap (λ x. slice_index x 0) bad.opens in
    let front : bs ≡ bad.text = ap (drop 1) bad.opens in
    let p = passed bad.before bad.text (36 ∷ bad.dollar) bad.reads in
    let q = passed bad.later bad.dollar (34 ∷ bad.rest) bad.closes in
    let n = text_len false bad.text in
    let size : n ≡ length (p.front ++ 36 ∷ q.front) = p.len ∙ omega (arith, q.len, length-append p.front (36 ∷ q.front)) in
    let whole : bad.text ≡ (p.front ++ 36 ∷ q.front) ++ 34 ∷ bad.rest =
    p.bytes ∙ ap (λ x. p.front ++ 36 ∷ x) q.bytes ∙ sym (append_assoc p.front (36 ∷ q.front) (34 ∷ bad.rest)) in
    let back : drop n bad.text ≡ 34 ∷ bad.rest = ap (drop n) whole ∙ drop_at (p.front ++ 36 ∷ q.front) (34 ∷ bad.rest) n (sym size) in
    let found : first_bad false bad.text ≡ Some (length p.front + 0) = p.bad bad.good ∙ ap (further (length p.front)) (lone_bad bad.dollar bad.lone) in
    let place : length p.front + 0 + 1 ≡ len = omega (arith, bad.len_is, ap length front, ap length p.bytes, length-append p.front (36 ∷ bad.dollar)) in
    ap (λ x. front_of x bs) same ∙ ap (λ x. front_string (text_len false x) x) front ∙ rw (back, found) (ap WrongDollar place)

-- The kind of a token's bytes.

abbrev front_kind : Front → TokenKind
front_kind (Found kind len) = kind
front_kind _ = k.Identifier

abbrev kind_of : List ℕ → TokenKind
kind_of [] = k.Identifier
kind_of (b ∷ bs) =
    if is_letter b then word_kind (b ∷ bs)
    else (if begins_run (b ∷ bs) then k.Integer else (if b == 34 then k.Str else front_kind (front_mark b bs)))

free_kind : (w : List ℕ) → IsToken k.Identifier w → word_kind w ≡ k.Identifier
free_kind w t = rw (not_text (codes "if") w t.1, not_text (codes "else") w t.2, not_text (codes "true") w t.3, not_text (codes "false") w t.4) refl

identifier_kind : (w : List ℕ) → IsToken k.Identifier w → k.Identifier ≡ kind_of w
identifier_kind [] t = absurd t.0
identifier_kind (b ∷ w) t = rw t.0.0 (sym (free_kind (b ∷ w) t))

integer_kind : (w : List ℕ) → IsInteger w → k.Integer ≡ kind_of w
integer_kind [] t = absurd (let x = run_at_most 0 [] (omega arith) (integer_is_run [] t) in omega (arith, x.1))
integer_kind (b ∷ w) t =
    let run : begins_run (b ∷ w) ≡ true = (run_at_most (length (b ∷ w)) (b ∷ w) (omega arith) (subst IsDigitRun (sym (take_all (b ∷ w))) (integer_is_run (b ∷ w) t))).0 in
    rw (run_no_letter b w run, run) refl
  where
    take_all : (w : List ℕ) → take (length w) w ≡ w
    take_all [] = refl
    take_all (x ∷ w) = ap (λ z. x ∷ z) (take_all w)

string_kind : (w : List ℕ) → IsString w → k.Str ≡ kind_of w
string_kind w (items, text, e, reads, good) = ap kind_of (sym e)

kind_is : (kind : TokenKind) (w : List ℕ) → IsToken kind w → kind ≡ kind_of w
kind_is k.Identifier w t = identifier_kind w t
kind_is k.Integer w t = integer_kind w t
kind_is k.Str w t = string_kind w t
kind_is k.If w t = ap kind_of (sym t)
kind_is k.Else w t = ap kind_of (sym t)
kind_is k.True w t = ap kind_of (sym t)
kind_is k.False w t = ap kind_of (sym t)
kind_is k.Assign w t = ap kind_of (sym t)
kind_is k.AddAssign w t = ap kind_of (sym t)
kind_is k.SubAssign w t = ap kind_of (sym t)
kind_is k.Plus w t = ap kind_of (sym t)
kind_is k.Minus w t = ap kind_of (sym t)
kind_is k.Equal w t = ap kind_of (sym t)
kind_is k.NotEqual w t = ap kind_of (sym t)
kind_is k.Less w t = ap kind_of (sym t)
kind_is k.LessEqual w t = ap kind_of (sym t)
kind_is k.Greater w t = ap kind_of (sym t)
kind_is k.GreaterEqual w t = ap kind_of (sym t)
kind_is k.And w t = ap kind_of (sym t)
kind_is k.Or w t = ap kind_of (sym t)
kind_is k.Not w t = ap kind_of (sym t)
kind_is k.Dot w t = ap kind_of (sym t)
kind_is k.Comma w t = ap kind_of (sym t)
kind_is k.OpenParen w t = ap kind_of (sym t)
kind_is k.CloseParen w t = ap kind_of (sym t)
kind_is k.OpenBracket w t = ap kind_of (sym t)
kind_is k.CloseBracket w t = ap kind_of (sym t)
kind_is k.OpenBrace w t = ap kind_of (sym t)
kind_is k.CloseBrace w t = ap kind_of (sym t)

string_first : (bs : List ℕ) (len : ℕ) (b : ℕ) → b ≡ 34 → k.Str ≡ kind_of (b ∷ take len bs)
string_first bs len b e = ap (λ x. kind_of (x ∷ take len bs)) (sym e)

-- A token that begins with a quote is a string.
quote_kind : (kind : TokenKind) (len b : ℕ) (bs : List ℕ) → b ≡ 34 → 1 ≤ len → IsToken kind (take len (b ∷ bs)) → kind ≡ k.Str
quote_kind kind zero b bs e one t = absurd (omega arith)
quote_kind kind (suc len) b bs e one t = kind_is kind (take (suc len) (b ∷ bs)) t ∙ sym (string_first bs len b e)

-- The longest token.
record IsLongest (b : ℕ) (bs : List ℕ) (kind : TokenKind) (len : ℕ) : Type 0 where
  some : 1 ≤ len
  within : len ≤ length (b ∷ bs)
  is_token : IsToken kind (take len (b ∷ bs))
  longest : (other : TokenKind) (m : ℕ) → len < m → m ≤ length (b ∷ bs) → ¬ IsToken other (take m (b ∷ bs))
  not_cut : (run : ℕ) → ¬ IsBadRun (b ∷ bs) run

quote_front : (b : ℕ) (bs : List ℕ) (kind : TokenKind) (len : ℕ) → b ≡ 34 → IsLongest b bs kind len → front_of b bs ≡ Found kind len
quote_front b bs kind len e h =
    let same : kind ≡ k.Str = quote_kind kind len b bs e h.some h.is_token in
    string_unique len b bs h.within (subst (λ x. IsToken x (take len (b ∷ bs))) same h.is_token) ∙ ap (λ x. Found x len) (sym same)

same_found : (b : ℕ) (bs : List ℕ) (kind other : TokenKind) (len n : ℕ) → IsLongest b bs kind len → len ≡ n → IsToken other (take n (b ∷ bs)) → Found other n ≡ Found kind len
same_found b bs kind other len n h e t =
    let here : IsToken other (take len (b ∷ bs)) = subst (λ z. IsToken other (take z (b ∷ bs))) (sym e) t in
    let same : other ≡ kind = kind_is other (take len (b ∷ bs)) here ∙ sym (kind_is kind (take len (b ∷ bs)) h.is_token) in
    ap (λ z. Found z n) same ∙ ap (Found kind) (sym e)

found_at : (b : ℕ) (bs : List ℕ) (kind : TokenKind) (len : ℕ) (f : Front) → IsLongest b bs kind len → front_of b bs ≡ f → IsFront b bs f → IsAtMost len f → front_of b bs ≡ Found kind len
found_at b bs kind len (Found other n) h e front most = elim (eqb_tells len n) [
  | inl x ↦ e ∙ same_found b bs kind other len n h x.1 front.2
  | inr x ↦ absurd (let ne = x.1 in h.longest other n (omega (arith, most.1)) front.1 front.2)
]
found_at b bs kind len WrongByte h e front most = absurd most
found_at b bs kind len WrongNumber h e front most = absurd (h.not_cut (run_len (b ∷ bs)) front)
found_at b bs kind len NotClosed h e (items, text, rest, opens, reads, ends) most = quote_front b bs kind len (ap (λ x. slice_index x 0) opens) h
found_at b bs kind len (WrongDollar at) h e front most = quote_front b bs kind len (ap (λ x. slice_index x 0) front.opens) h

found_unique : (b : ℕ) (bs : List ℕ) (kind : TokenKind) (len : ℕ) → IsLongest b bs kind len → front_of b bs ≡ Found kind len
found_unique b bs kind len h = found_at b bs kind len (front_of b bs) h refl (front_is b bs) (at_most kind len b bs h.within h.is_token)

digit_small : (b : ℕ) → is_digit b ≡ true → b ≤ 57
digit_small b h = grind (arith, nat_tests)

equal_true : (b c : ℕ) → (b == c) ≡ true → b ≡ c
equal_true b c h = elim (eqb_tells b c) [
  | inl e ↦ e.1
  | inr e ↦ absurd (let x = e.0 in cc)
]

-- Where a run begins, its first byte is a token.
token_in_run : (b : ℕ) (bs : List ℕ) → begins_run (b ∷ bs) ≡ true → (kind : TokenKind) × IsToken kind (take 1 (b ∷ bs))
token_in_run b bs h = elim (or_true (is_digit b) ((b == 45) && begins is_digit bs) h) [
  | inl d ↦ (k.Integer, inl ((All-from_recursion (λ c. IsTrue (is_digit c)) (b ∷ []) (d, tt), λ _. refl), omega (arith, digit_small b d)))
  | inr d ↦ (k.Minus, ap (λ x. x ∷ []) (equal_true b 45 (first_true (b == 45) (begins is_digit bs) d.1)))
]

byte_at : (b : ℕ) (bs : List ℕ) (f : Front) → ((kind : TokenKind) (m : ℕ) → m ≤ length (b ∷ bs) → ¬ IsToken kind (take m (b ∷ bs))) → b ≢ 34 → IsFront b bs f → f ≡ WrongByte
byte_at b bs (Found kind len) never ne front = absurd (never kind len front.1 front.2)
byte_at b bs WrongByte never ne front = refl
byte_at b bs WrongNumber never ne front =
    let found = token_in_run b bs (bad_run_here (b ∷ bs) (run_len (b ∷ bs)) front).0 in
    absurd (never found.0 1 (omega arith) found.1)
byte_at b bs NotClosed never ne (items, text, rest, opens, reads, ends) = absurd (ne (ap (λ x. slice_index x 0) opens))
byte_at b bs (WrongDollar at) never ne front = absurd (ne (ap (λ x. slice_index x 0) front.opens))

number_unique : (b : ℕ) (bs : List ℕ) (run : ℕ) → IsBadRun (b ∷ bs) run → front_of b bs ≡ WrongNumber
number_unique b bs run bad = let here = bad_run_here (b ∷ bs) run bad in front_of_run b bs here.0 ∙ ap front_number here.1

-- White space and `#` begin nothing.
gap_byte : (b : ℕ) (bs : List ℕ) → is_white b ≡ true → front_of b bs ≡ WrongByte
gap_byte b bs h = elim (or_true ((b == 32 || b == 9) || b == 13) (b == 10) h) [
  | inr n ↦ ap (λ x. front_of x bs) (equal_true b 10 n.1)
  | inl h3 ↦ elim (or_true (b == 32 || b == 9) (b == 13) h3) [
    | inr n ↦ ap (λ x. front_of x bs) (equal_true b 13 n.1)
    | inl h2 ↦ elim (or_true (b == 32) (b == 9) h2) [
      | inr n ↦ ap (λ x. front_of x bs) (equal_true b 9 n.1)
      | inl n ↦ ap (λ x. front_of x bs) (equal_true b 32 n)
    ]
  ]
]

solid : (b : ℕ) (bs : List ℕ) → front_of b bs ≢ WrongByte → (is_white b ≡ false) × (b ≢ 35)
solid b bs ne = (
  elim (cases_Bool (is_white b)) [
    | inl w ↦ absurd (ne (gap_byte b bs w))
    | inr w ↦ w
  ],
  λ e. ne (ap (λ x. front_of x bs) e),
)

-- The whole answer.

answer_at : (bytes : List ℕ) (at start b : ℕ) (bs : List ℕ) (f : Front) → at ≤ start → IsGap (take (start - at) (drop at bytes)) → drop start bytes ≡ b ∷ bs → (is_white b ≡ false) × (b ≢ 35) → front_of b bs ≡ f →
    front_answer start f ≡ next_token bytes at
answer_at bytes at start b bs f le gap rest apart e =
    sym (ap (λ x. answer x (drop x bytes)) (place_is bytes at start b bs le gap rest apart.0 apart.1) ∙ ap (answer start) rest ∙ ap (front_answer start) e)

apart_by : (b : ℕ) (bs : List ℕ) (f : Front) → front_of b bs ≡ f → f ≢ WrongByte → (is_white b ≡ false) × (b ≢ 35)
apart_by b bs f e ne = solid b bs (λ x. ne (sym e ∙ x))

uncons : (bs : List ℕ) → 1 ≤ length bs → (b : ℕ) × (rest : List ℕ) × (bs ≡ b ∷ rest)
uncons [] h = absurd (omega arith)
uncons (b ∷ rest) h = (b, rest, refl)

token_unique : (bytes : List ℕ) (at : ℕ) (token : Token) → IsNextToken bytes at token → Ok (Some token) ≡ next_token bytes at
token_unique bytes at token h =
    let start = token.start in
    let len = token.end - start in
    let parts = uncons (drop start bytes) (omega (arith, h.ends, h.within, length-drop start bytes)) in
    let b = parts.0 in
    let bs = parts.1 in
    let rest : drop start bytes ≡ b ∷ bs = parts.2 in
    let size : length (b ∷ bs) + start ≡ length bytes = omega (arith, ap length rest, length-drop start bytes, h.ends, h.within) in
    let longest : IsLongest b bs token.kind len = record {
      some = omega (arith, h.ends);
      within = omega (arith, size, h.within);
      is_token = subst (λ x. IsToken token.kind (take len x)) rest h.is_token;
      longest = λ other m lt fits t.
          let back : start + m - start ≡ m = omega arith in
          h.longest other (start + m) (omega (arith, lt, h.ends)) (omega (arith, size, fits)) (rw (back, rest) t);
      not_cut = λ run bad. h.not_cut run (subst (λ x. IsBadRun x run) (sym rest) bad);
    } in
    let found : front_of b bs ≡ Found token.kind len = found_unique b bs token.kind len longest in
    let end : token.end ≡ start + len = omega (arith, h.ends) in
    let written : Ok (Some token) ≡ front_answer start (Found token.kind len) = ap (λ x. Ok (Some (record { kind = token.kind; start = token.start; end = x }))) end in
    written ∙ answer_at bytes at start b bs (Found token.kind len) h.starts h.gap rest (apart_by b bs (Found token.kind len) found (λ e. absurd cc)) found

byte_unique : (bytes : List ℕ) (at offset : ℕ) → IsBadByte bytes at offset → Err (BadByte offset) ≡ next_token bytes at
byte_unique bytes at offset h =
    let parts = uncons (drop offset bytes) (omega (arith, h.within, length-drop offset bytes)) in
    let b = parts.0 in
    let bs = parts.1 in
    let rest : drop offset bytes ≡ b ∷ bs = parts.2 in
    let first : slice_index bytes offset ≡ b = ap (slice_index bytes) (omega arith) ∙ sym (get_or-drop offset bytes 0 0) ∙ ap (λ x. slice_index x 0) rest in
    let size : length (b ∷ bs) + offset ≡ length bytes = omega (arith, ap length rest, length-drop offset bytes, h.within) in
    let wrong : front_of b bs ≡ WrongByte = byte_at b bs (front_of b bs) (λ kind m fits t.
    (let back : offset + m - offset ≡ m = omega arith in
    h.no_token kind (offset + m) (omega arith) (omega (arith, size, fits)) (rw (back, rest) t))) (λ e. h.not_quote (first ∙ e)) (front_is b bs) in
    answer_at bytes at offset b bs WrongByte h.starts h.gap rest (sym (ap is_white first) ∙ h.not_white, λ e. h.not_comment (first ∙ e)) wrong

number_answer : (bytes : List ℕ) (at offset : ℕ) → IsBadNumber bytes at offset → Err (BadNumber offset) ≡ next_token bytes at
number_answer bytes at offset h = go (drop offset bytes) refl h.is_bad
  where
    go : (rest : List ℕ) → drop offset bytes ≡ rest → IsBadRun rest h.len → Err (BadNumber offset) ≡ next_token bytes at
    go [] e bad = absurd (let x = bad_run_here [] h.len bad in cc)
    go (b ∷ bs) e bad =
        let found = number_unique b bs h.len bad in
        answer_at bytes at offset b bs WrongNumber h.starts h.gap e (apart_by b bs WrongNumber found (λ x. absurd cc)) found

open_answer : (bytes : List ℕ) (at offset : ℕ) → IsOpenString bytes at offset → Err (OpenString offset) ≡ next_token bytes at
open_answer bytes at offset h = go (drop offset bytes) refl h.is_open
  where
    go : (rest : List ℕ) → drop offset bytes ≡ rest → IsOpen rest → Err (OpenString offset) ≡ next_token bytes at
    go [] e (items, text, rest, opens, reads, ends) = absurd cc
    go (b ∷ bs) e is_open =
        let found = open_unique b bs is_open in
        answer_at bytes at offset b bs NotClosed h.starts h.gap e (apart_by b bs NotClosed found (λ x. absurd cc)) found

dollar_answer : (bytes : List ℕ) (at offset : ℕ) → IsBadDollar bytes at offset → Err (BadDollar offset) ≡ next_token bytes at
dollar_answer bytes at offset h = ap (λ x. Err (BadDollar x)) h.offset_is ∙ go (drop h.start bytes) refl h.is_bad
  where
    go : (rest : List ℕ) → drop h.start bytes ≡ rest → IsBadDollarBehind rest h.len → Err (BadDollar (h.start + h.len)) ≡ next_token bytes at
    go [] e bad = absurd (let x = bad.opens in cc)
    go (b ∷ bs) e bad =
        let found = dollar_unique b bs h.len bad in
        answer_at bytes at h.start b bs (WrongDollar h.len) h.starts h.gap e (apart_by b bs (WrongDollar h.len) found (λ x. absurd cc)) found

end_unique : (bytes : List ℕ) (at : ℕ) → at ≤ length bytes → IsOnlyGap bytes at → Ok None ≡ next_token bytes at
end_unique bytes at le h =
    let n = gap_len false (drop at bytes) in
    let all : n ≡ length (drop at bytes) = only_gap (drop at bytes) h in
    let none : drop (at + n) bytes ≡ [] = no_more (drop (at + n) bytes) (omega (arith, all, length-drop at bytes, length-drop (at + n) bytes)) in
    sym (ap (answer (at + n)) none)
  where
    no_more : (bs : List ℕ) → length bs ≡ 0 → bs ≡ []
    no_more [] e = refl
    no_more (b ∷ bs) e = absurd (omega arith)

-- Every answer that is right is the one of the function.
pub next_is_unique : (r : Reader) (given : Result (Option Token) TokenError) → r.at ≤ length r.bytes → IsNext r given → given ≡ next_token r.bytes r.at
next_is_unique r (Ok (Some token)) le h = token_unique r.bytes r.at token h
next_is_unique r (Ok None) le h = end_unique r.bytes r.at le h
next_is_unique r (Err (BadByte offset)) le h = byte_unique r.bytes r.at offset h
next_is_unique r (Err (BadNumber offset)) le h = number_answer r.bytes r.at offset h
next_is_unique r (Err (OpenString offset)) le h = open_answer r.bytes r.at offset h
next_is_unique r (Err (BadDollar offset)) le h = dollar_answer r.bytes r.at offset h

pub one_answer : (r : Reader) (one other : Result (Option Token) TokenError) → r.at ≤ length r.bytes → IsNext r one → IsNext r other → one ≡ other
one_answer r one other le h g = next_is_unique r one le h ∙ sym (next_is_unique r other le g)
