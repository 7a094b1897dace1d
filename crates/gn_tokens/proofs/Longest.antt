-- The token at the front is the longest there, and each error is one.
use Rattle.std.proofs.Common.{◌≡◌, ◌≢◌, ◌⊎◌, ℕ, zero, suc, ◌+◌, ◌≤◌, Bool, true, false, ◌&&◌, IsTrue, ◌==◌, if◌then◌else◌, List, [], ◌∷◌, ◌++◌, length, take, drop, codes, Option, Some, None, refl, sym, ◌∙◌, ap, subst, inl, inr, arith, length-append, length-take-le, take-append-drop, append_assoc, take_at}
use Rattle.std.specs.List.{prefix_len}
use Rattle.std.proofs.lemmas.Bool.{cases_Bool}
use Rattle.std.proofs.lemmas.Bool.Decides.{eqb_tells, nat_tests}
use Rattle.std.proofs.lemmas.List.Elements.{All-head, All-tail, All-from_recursion}
use Rattle.std.proofs.lemmas.List.Sums.{prefix_len-le-length}
use Rattle.gn_basics.proofs.Tests.{first_true}
use Rattle.gn_tokens.specs.declared.token.TokenKind.{TokenKind}
use Rattle.gn_tokens.specs.declared.token.TokenKind.TheVariants as k
use Rattle.gn_tokens.specs.Bytes.{is_letter, is_word_byte, is_digit, is_escapable, begins, begins_with, IsWord, front_word, is_text}
use Rattle.gn_tokens.specs.Number.{IsInteger, IsBadRun, begins_run, run_len, integer_len}
use Rattle.gn_tokens.specs.Text.{Item, Plain, Escape, Hex, Variable, Braced, Element, Field, item_bytes, IsExpansion, IsItem, Reads, AllExpand, IsString, IsOpen, IsBadDollarBehind, is_stop, text_len, first_bad, text_items}
use Rattle.gn_tokens.specs.Token.{IsToken}
use Rattle.gn_tokens.specs.Front.{Front, Found, WrongByte, WrongNumber, NotClosed, WrongDollar, word_kind, front_number, front_closed, front_string, or_equal, twice, front_mark, front_of}
use Rattle.gn_tokens.proofs.Words.{begins_with_tells, passing, letter_in_word, word_bytes, front_is_word, is_text_same, is_identifier, or_true}
use Rattle.gn_tokens.proofs.Numbers.{digit_no_letter, run_at_most, run_within, integer_is_run, IsIntegerHere, integer_len_is, bad_run_here}
use Rattle.gn_tokens.proofs.Expansions.{expansion_ordinary, dollar_first, behind_first}
use Rattle.gn_tokens.proofs.Texts.{len_over, IsJudged, IsRead, read}

-- Nothing longer.

-- No token that has m bytes is longer than the one at the front. Where a number or a string is wrong, nothing is said.
abbrev pub IsAtMost : ℕ → Front → Type 0
IsAtMost m (Found kind len) = (1 ≤ m) × (m ≤ len)
IsAtMost m WrongByte = ⊥
IsAtMost m WrongNumber = Unit {0}
IsAtMost m NotClosed = Unit {0}
IsAtMost m (WrongDollar len) = Unit {0}

word_at_most : (m b : ℕ) (bs : List ℕ) → m ≤ length (b ∷ bs) → IsWord (take m (b ∷ bs)) → IsAtMost m (front_of b bs)
word_at_most zero b bs le t = absurd t
word_at_most (suc m) b bs le t = rw t.0 (omega arith, passing is_word_byte (suc m) (b ∷ bs) le (word_bytes (take (suc m) (b ∷ bs)) t))

reserved_at_most : (m b : ℕ) (bs w : List ℕ) → m ≤ length (b ∷ bs) → take m (b ∷ bs) ≡ w → IsWord w → IsAtMost m (front_of b bs)
reserved_at_most m b bs w le e h = word_at_most m b bs le (subst IsWord (sym e) h)

pub run_no_letter : (b : ℕ) (bs : List ℕ) → begins_run (b ∷ bs) ≡ true → is_letter b ≡ false
run_no_letter b bs h = elim (or_true (is_digit b) ((b == 45) && begins is_digit bs) h) [
  | inl d ↦ digit_no_letter b d
  | inr d ↦ elim (eqb_tells b 45) [
    | inl e ↦ rw e.1 refl
    | inr e ↦ absurd (let x = e.0 in let y = first_true (b == 45) (begins is_digit bs) d.1 in cc)
  ]
]

choose_second : (l r : Bool) (x y z : Front) → l ≡ false → r ≡ true → (if l then x else (if r then y else z)) ≡ y
choose_second false true x y z l r = refl
choose_second false false x y z l r = cc
choose_second true r x y z l e = cc

-- Where a run begins, the front is its number.
pub front_of_run : (b : ℕ) (bs : List ℕ) → begins_run (b ∷ bs) ≡ true → front_of b bs ≡ front_number (integer_len (b ∷ bs))
front_of_run b bs h =
    choose_second (is_letter b) (begins_run (b ∷ bs)) (Found (word_kind (front_word (b ∷ bs))) (prefix_len is_word_byte (b ∷ bs))) (front_number (integer_len (b ∷ bs)))
    (if b == 34 then front_string (text_len false bs) bs else front_mark b bs) (run_no_letter b bs h) h

number_at_most : (m b : ℕ) (bs : List ℕ) (len : Option ℕ) → integer_len (b ∷ bs) ≡ len → 1 ≤ m → m ≤ run_len (b ∷ bs) → IsAtMost m (front_number len)
number_at_most m b bs None e one le = tt
number_at_most m b bs (Some n) e one le =
    let here = subst (IsIntegerHere (b ∷ bs)) e (integer_len_is (b ∷ bs)) in
    (one, omega (arith, here.0, le))

integer_at_most : (m b : ℕ) (bs : List ℕ) → m ≤ length (b ∷ bs) → IsInteger (take m (b ∷ bs)) → IsAtMost m (front_of b bs)
integer_at_most m b bs le t =
    let here = run_at_most m (b ∷ bs) le (integer_is_run (take m (b ∷ bs)) t) in
    subst (IsAtMost m) (sym (front_of_run b bs here.0)) (number_at_most m b bs (integer_len (b ∷ bs)) refl here.1 here.2)

mark_at_most : (c m b : ℕ) (bs : List ℕ) → m ≤ length (b ∷ bs) → take m (b ∷ bs) ≡ c ∷ [] → ((x : ℕ) → x ≡ 1 → IsAtMost x (front_of c bs)) → IsAtMost m (front_of b bs)
mark_at_most c zero b bs le e one = absurd cc
mark_at_most c (suc m) b bs le e one =
    let same : b ≡ c = cc in
    let none : take m bs ≡ [] = cc in
    let short : m ≡ 0 = omega (arith, sym (length-take-le m bs (omega arith)), ap length none) in
    subst (λ x. IsAtMost (suc m) (front_of x bs)) (sym same) (one (suc m) (omega (arith, short)))

two_at_most : (c d m b : ℕ) (bs : List ℕ) → m ≤ length (b ∷ bs) → take m (b ∷ bs) ≡ c ∷ d ∷ [] → ((x : ℕ) (cs : List ℕ) → x ≡ 2 → IsAtMost x (front_of c (d ∷ cs))) → IsAtMost m (front_of b bs)
two_at_most c d zero b bs le e two = absurd cc
two_at_most c d (suc zero) b bs le e two = absurd cc
two_at_most c d (suc (suc m)) b [] le e two = absurd cc
two_at_most c d (suc (suc m)) b (x ∷ bs) le e two =
    let same : b ≡ c = cc in
    let next : x ≡ d = cc in
    let none : take m bs ≡ [] = cc in
    let short : m ≡ 0 = omega (arith, sym (length-take-le m bs (omega arith)), ap length none) in
    subst (λ y. IsAtMost (suc (suc m)) (front_of y (x ∷ bs))) (sym same) (subst (λ y. IsAtMost (suc (suc m)) (front_of c (y ∷ bs))) (sym next) (two (suc (suc m)) bs (omega (arith, short))))

equal_one : (short long : TokenKind) (bs : List ℕ) (x : ℕ) → x ≡ 1 → IsAtMost x (or_equal short long bs)
equal_one short long bs x e = elim (cases_Bool (begins_with 61 bs)) [
  | inl h ↦ rw h (omega arith, omega arith)
  | inr h ↦ rw h (omega arith, omega arith)
]

minus_one : (bs : List ℕ) (x : ℕ) → x ≡ 1 → IsAtMost x (front_of 45 bs)
minus_one bs x e = elim (cases_Bool (begins is_digit bs)) [
  | inl h ↦ subst (IsAtMost x) (sym (front_of_run 45 bs h)) (number_at_most x 45 bs (integer_len (45 ∷ bs)) refl (omega arith) (omega arith))
  | inr h ↦ rw h (equal_one k.Minus k.SubAssign bs x e)
]

dot : (kind : TokenKind) (x : ℕ) → x ≡ 1 → IsAtMost x (Found kind 1)
dot kind x e = (omega arith, omega arith)

pair : (kind : TokenKind) (x : ℕ) → x ≡ 2 → IsAtMost x (Found kind 2)
pair kind x e = (omega arith, omega arith)

-- Strings.

pub begins_longer : (p : ℕ → Bool) (bs more : List ℕ) → 1 ≤ length bs → begins p (bs ++ more) ≡ begins p bs
begins_longer p [] more h = absurd (omega arith)
begins_longer p (b ∷ bs) more h = refl

plain_len : (b : ℕ) (bs : List ℕ) → b ≢ 34 → b ≢ 10 → (b ≡ 92 → begins is_escapable bs ≡ false) → text_len false (b ∷ bs) ≡ suc (text_len false bs)
plain_len b bs q n esc =
    let inside : is_stop b ≡ false = grind (arith, nat_tests) in
    elim (eqb_tells b 92) [
      | inl e ↦ rw (inside, e.0) (ap suc (no_escape bs (esc e.1)))
      | inr e ↦ rw (inside, e.0) refl
    ]
  where
    no_escape : (bs : List ℕ) → begins is_escapable bs ≡ false → text_len true bs ≡ text_len false bs
    no_escape [] h = refl
    no_escape (b ∷ bs) h = rw h refl

expansion_len : (item : Item) (later rest : List ℕ) → IsExpansion item later → text_len false (item_bytes item ++ rest) ≡ length (item_bytes item) + text_len false rest
expansion_len item later rest h =
    let first : item_bytes item ≡ 36 ∷ behind_first item = dollar_first item later h in
    let over : text_len false (behind_first item ++ rest) ≡ length (behind_first item) + text_len false rest = len_over (behind_first item) rest (expansion_ordinary item later h) in
    ap (λ x. text_len false (x ++ rest)) first ∙ ap suc over ∙ omega (arith, ap length first)

pub item_len : (item : Item) (later rest : List ℕ) → IsItem item later → begins is_escapable rest ≡ begins is_escapable later → text_len false (item_bytes item ++ rest) ≡ length (item_bytes item) + text_len false rest
item_len (Plain b) later rest h same = plain_len b rest h.0 h.1 (λ e. same ∙ h.2 e) ∙ omega arith
item_len (Escape b) later rest h same = rw h (omega arith)
item_len (Hex high low) later rest h same = expansion_len (Hex high low) later rest h
item_len (Variable name) later rest h same = expansion_len (Variable name) later rest h
item_len (Braced name) later rest h same = expansion_len (Braced name) later rest h
item_len (Element name index) later rest h same = expansion_len (Element name index) later rest h
item_len (Field name field) later rest h same = expansion_len (Field name field) later rest h

pub reads_some : (items : List Item) (bs : List ℕ) → Reads items bs (34 ∷ []) → 1 ≤ length bs
reads_some [] bs h = omega (arith, ap length h)
reads_some (item ∷ items) bs (later, bytes, is_item, reads) = omega (arith, reads_some items later reads, ap length bytes, length-append (item_bytes item) later)

-- A closed string ends at its first quote, whatever comes behind.
pub closed_len : (items : List Item) (bs more : List ℕ) → Reads items bs (34 ∷ []) → text_len false (bs ++ more) + 1 ≡ length bs
closed_len [] bs more h = ap (λ x. text_len false (x ++ more) + 1) h ∙ omega (arith, ap length h)
closed_len (item ∷ items) bs more (later, bytes, is_item, reads) =
    let inner = closed_len items later more reads in
    let some = reads_some items later reads in
    let over : text_len false (item_bytes item ++ (later ++ more)) ≡ length (item_bytes item) + text_len false (later ++ more) =
    item_len item later (later ++ more) is_item (begins_longer is_escapable later more some) in
    let whole : bs ++ more ≡ item_bytes item ++ (later ++ more) = ap (λ x. x ++ more) bytes ∙ append_assoc (item_bytes item) later more in
    omega (arith, ap (text_len false) whole, over, inner, ap length bytes, length-append (item_bytes item) later)

string_at_most : (m b : ℕ) (bs : List ℕ) → m ≤ length (b ∷ bs) → IsString (take m (b ∷ bs)) → IsAtMost m (front_of b bs)
string_at_most zero b bs le (items, text, e, reads, good) = absurd cc
string_at_most (suc m) b bs le (items, text, e, reads, good) =
    let same : b ≡ 34 = cc in
    let front : take m bs ≡ text = cc in
    let whole : text ++ drop m bs ≡ bs = ap (λ x. x ++ drop m bs) (sym front) ∙ take-append-drop m bs in
    let size : text_len false bs + 1 ≡ length text = subst (λ x. text_len false x + 1 ≡ length text) whole (closed_len items text (drop m bs) reads) in
    let len : m ≡ length text = sym (length-take-le m bs (omega arith)) ∙ ap length front in
    subst (λ x. IsAtMost (suc m) (front_of x bs)) (sym same) (closed (suc m) bs (begins_with 34 (drop (text_len false bs) bs)) (first_bad false bs) (omega arith) (omega (arith, size, len)))
  where
    judged : (m n : ℕ) (bad : Option ℕ) → 1 ≤ m → m ≤ n + 2 → IsAtMost m (front_closed n bad)
    judged m n None one h = (one, h)
    judged m n (Some at) one h = tt

    closed : (m : ℕ) (bs : List ℕ) (is_closed : Bool) (bad : Option ℕ) → 1 ≤ m → m ≤ text_len false bs + 2 → IsAtMost m (if is_closed then front_closed (text_len false bs) bad else NotClosed)
    closed m bs true bad one h = judged m (text_len false bs) bad one h
    closed m bs false bad one h = tt

pub at_most : (kind : TokenKind) (m b : ℕ) (bs : List ℕ) → m ≤ length (b ∷ bs) → IsToken kind (take m (b ∷ bs)) → IsAtMost m (front_of b bs)
at_most k.Identifier m b bs le t = word_at_most m b bs le t.0
at_most k.If m b bs le t = reserved_at_most m b bs (codes "if") le t (refl, All-from_recursion (λ c. IsTrue (is_word_byte c)) (drop 1 (codes "if")) (refl, tt))
at_most k.Else m b bs le t = reserved_at_most m b bs (codes "else") le t (refl, All-from_recursion (λ c. IsTrue (is_word_byte c)) (drop 1 (codes "else")) (refl, (refl, (refl, tt))))
at_most k.True m b bs le t = reserved_at_most m b bs (codes "true") le t (refl, All-from_recursion (λ c. IsTrue (is_word_byte c)) (drop 1 (codes "true")) (refl, (refl, (refl, tt))))
at_most k.False m b bs le t = reserved_at_most m b bs (codes "false") le t (refl, All-from_recursion (λ c. IsTrue (is_word_byte c)) (drop 1 (codes "false")) (refl, (refl, (refl, (refl, tt)))))
at_most k.Integer m b bs le t = integer_at_most m b bs le t
at_most k.Str m b bs le t = string_at_most m b bs le t
at_most k.Assign m b bs le t = mark_at_most 61 m b bs le t (equal_one k.Assign k.Equal bs)
at_most k.AddAssign m b bs le t = two_at_most 43 61 m b bs le t (λ x cs. pair k.AddAssign x)
at_most k.SubAssign m b bs le t = two_at_most 45 61 m b bs le t (λ x cs. pair k.SubAssign x)
at_most k.Plus m b bs le t = mark_at_most 43 m b bs le t (equal_one k.Plus k.AddAssign bs)
at_most k.Minus m b bs le t = mark_at_most 45 m b bs le t (minus_one bs)
at_most k.Equal m b bs le t = two_at_most 61 61 m b bs le t (λ x cs. pair k.Equal x)
at_most k.NotEqual m b bs le t = two_at_most 33 61 m b bs le t (λ x cs. pair k.NotEqual x)
at_most k.Less m b bs le t = mark_at_most 60 m b bs le t (equal_one k.Less k.LessEqual bs)
at_most k.LessEqual m b bs le t = two_at_most 60 61 m b bs le t (λ x cs. pair k.LessEqual x)
at_most k.Greater m b bs le t = mark_at_most 62 m b bs le t (equal_one k.Greater k.GreaterEqual bs)
at_most k.GreaterEqual m b bs le t = two_at_most 62 61 m b bs le t (λ x cs. pair k.GreaterEqual x)
at_most k.And m b bs le t = two_at_most 38 38 m b bs le t (λ x cs. pair k.And x)
at_most k.Or m b bs le t = two_at_most 124 124 m b bs le t (λ x cs. pair k.Or x)
at_most k.Not m b bs le t = mark_at_most 33 m b bs le t (equal_one k.Not k.NotEqual bs)
at_most k.Dot m b bs le t = mark_at_most 46 m b bs le t (dot k.Dot)
at_most k.Comma m b bs le t = mark_at_most 44 m b bs le t (dot k.Comma)
at_most k.OpenParen m b bs le t = mark_at_most 40 m b bs le t (dot k.OpenParen)
at_most k.CloseParen m b bs le t = mark_at_most 41 m b bs le t (dot k.CloseParen)
at_most k.OpenBracket m b bs le t = mark_at_most 91 m b bs le t (dot k.OpenBracket)
at_most k.CloseBracket m b bs le t = mark_at_most 93 m b bs le t (dot k.CloseBracket)
at_most k.OpenBrace m b bs le t = mark_at_most 123 m b bs le t (dot k.OpenBrace)
at_most k.CloseBrace m b bs le t = mark_at_most 125 m b bs le t (dot k.CloseBrace)

-- What stands at the front.

abbrev pub IsFront : ℕ → List ℕ → Front → Type 0
IsFront b bs (Found kind len) = (1 ≤ len) × (len ≤ length (b ∷ bs)) × IsToken kind (take len (b ∷ bs))
IsFront b bs WrongByte = b ≢ 34
IsFront b bs WrongNumber = IsBadRun (b ∷ bs) (run_len (b ∷ bs))
IsFront b bs NotClosed = IsOpen (b ∷ bs)
IsFront b bs (WrongDollar len) = IsBadDollarBehind (b ∷ bs) len

word_kind_is : (w : List ℕ) → IsWord w → IsToken (word_kind w) w
word_kind_is w h = elim (cases_Bool (is_text (codes "if") w)) [
  | inl a ↦ rw a (is_text_same (codes "if") w a)
  | inr a ↦ elim (cases_Bool (is_text (codes "else") w)) [
    | inl c ↦ rw (a, c) (is_text_same (codes "else") w c)
    | inr c ↦ elim (cases_Bool (is_text (codes "true") w)) [
      | inl d ↦ rw (a, c, d) (is_text_same (codes "true") w d)
      | inr d ↦ elim (cases_Bool (is_text (codes "false") w)) [
        | inl e ↦ rw (a, c, d, e) (is_text_same (codes "false") w e)
        | inr e ↦ rw (a, c, d, e) (is_identifier w h (rw (a, c, d, e) refl))
      ]
    ]
  ]
]

word_front_is : (b : ℕ) (bs : List ℕ) → is_letter b ≡ true → IsFront b bs (Found (word_kind (front_word (b ∷ bs))) (prefix_len is_word_byte (b ∷ bs)))
word_front_is b bs h =
    let len : prefix_len is_word_byte (b ∷ bs) ≡ suc (prefix_len is_word_byte bs) = rw (letter_in_word b h) (omega arith) in
    (omega (arith, len), prefix_len-le-length is_word_byte (b ∷ bs), word_kind_is (front_word (b ∷ bs)) (front_is_word (b ∷ bs) h))

run_some : (b : ℕ) (bs : List ℕ) → begins_run (b ∷ bs) ≡ true → 1 ≤ run_len (b ∷ bs)
run_some b bs h = elim (eqb_tells b 45) [
  | inl e ↦ rw e.0 (omega arith)
  | inr e ↦ rw e.0 (elim (or_true (is_digit b) ((b == 45) && begins is_digit bs) h) [
    | inl d ↦ rw d (omega arith)
    | inr d ↦ absurd (let x = e.0 in let y = first_true (b == 45) (begins is_digit bs) d.1 in cc)
  ])
]

number_front_is : (b : ℕ) (bs : List ℕ) (len : Option ℕ) → begins_run (b ∷ bs) ≡ true → IsIntegerHere (b ∷ bs) len → IsFront b bs (front_number len)
number_front_is b bs None h here = here h
number_front_is b bs (Some n) h here = (omega (arith, here.0, run_some b bs h), omega (arith, here.0, run_within (b ∷ bs)), here.2)

item_cut : (item : Item) (later front rest : List ℕ) → item ≢ Plain 36 → later ≡ front ++ rest → 1 ≤ length front → IsItem item later → IsItem item front
item_cut (Plain b) later front rest ne e some h = (h.0, h.1, λ x. sym (begins_longer is_escapable front rest some) ∙ ap (begins is_escapable) (sym e) ∙ h.2 x, λ x. absurd (ne (ap Plain x)))
item_cut (Escape b) later front rest ne e some h = h
item_cut (Hex high low) later front rest ne e some h = h
item_cut (Variable name) later front rest ne e some h = (h.0, sym (begins_longer is_word_byte front rest some) ∙ ap (begins is_word_byte) (sym e) ∙ h.1)
item_cut (Braced name) later front rest ne e some h = h
item_cut (Element name index) later front rest ne e some h = h
item_cut (Field name field) later front rest ne e some h = h

-- A closed string without what comes behind.
cut : (items : List Item) (bs rest : List ℕ) → Reads items bs (34 ∷ rest) → AllExpand items → (front : List ℕ) × (bs ≡ front ++ rest) × Reads items front (34 ∷ [])
cut [] bs rest h good = (34 ∷ [], h, refl)
cut (item ∷ items) bs rest (later, bytes, is_item, reads) good =
    let inner = cut items later rest reads (All-tail (λ x. x ≢ Plain 36) item items good) in
    let here : item ≢ Plain 36 = All-head (λ x. x ≢ Plain 36) item items good in (
      item_bytes item ++ inner.0,
      bytes ∙ ap (λ x. item_bytes item ++ x) inner.1 ∙ sym (append_assoc (item_bytes item) inner.0 rest),
      (inner.0, refl, item_cut item later inner.0 rest here inner.1 (reads_some items inner.0 inner.2) is_item, inner.2),
    )

stops : (is_escape : Bool) (bs : List ℕ) → (drop (text_len is_escape bs) bs ≡ []) ⊎ (begins is_stop (drop (text_len is_escape bs) bs) ≡ true)
stops is_escape [] = inl refl
stops is_escape (b ∷ bs) = elim (cases_Bool (is_escape && is_escapable b)) [
  | inl e ↦ rw e (stops false bs)
  | inr e ↦ elim (cases_Bool (is_stop b)) [
    | inl s ↦ rw (e, s) (inr s)
    | inr s ↦ rw (e, s) (stops (b == 92) bs)
  ]
]

newline_left : (bs : List ℕ) → begins is_stop bs ≡ true → begins_with 34 bs ≡ false → begins_with 10 bs ≡ true
newline_left [] h ne = absurd cc
newline_left (b ∷ bs) h ne = elim (or_true (b == 34) (b == 10) h) [
  | inl q ↦ absurd (let x = ne in cc)
  | inr q ↦ q.1
]

closed_front_is : (bs rest : List ℕ) (n : ℕ) (bad : Option ℕ) → text_len false bs ≡ n → drop n bs ≡ 34 ∷ rest → Reads (text_items bs) bs (34 ∷ rest) → IsJudged bs (34 ∷ rest) bad → IsFront 34 bs (front_closed n bad)
closed_front_is bs rest n None len e reads good =
    let found = cut (text_items bs) bs rest reads good in
    let size : n + 1 ≡ length found.0 = omega (arith, subst (λ x. text_len false x + 1 ≡ length found.0) (sym found.1) (closed_len (text_items bs) found.0 rest found.2), len) in
    let two : n + 2 ≡ suc (suc n) = omega arith in
    let front : take (suc n) bs ≡ found.0 = ap (take (suc n)) found.1 ∙ take_at found.0 rest (suc n) (omega (arith, size)) in
    rw two (omega arith, omega (arith, size, ap length found.1, length-append found.0 rest), (text_items bs, found.0, ap (λ x. 34 ∷ x) front, found.2, good))
closed_front_is bs rest n (Some at) len e reads (before, dollar, later, start, fine, lone, closes, size) =
    record { text = bs; before = before; dollar = dollar; later = later; rest = rest; opens = refl; reads = start; good = fine; lone = lone; closes = closes; len_is = omega (arith, size) }

string_front_is : (bs : List ℕ) → IsFront 34 bs (front_string (text_len false bs) bs)
string_front_is bs =
    let n = text_len false bs in
    let whole : IsRead bs (drop n bs) = read (length bs) bs (omega arith) in
    elim (cases_Bool (begins_with 34 (drop n bs))) [
      | inl h ↦
          let end = begins_with_tells 34 (drop n bs) h in
          let closed : IsRead bs (34 ∷ end.0) = subst (IsRead bs) end.1 whole in
          rw h (closed_front_is bs end.0 n (first_bad false bs) refl end.1 closed.reads closed.judged)
      | inr h ↦ rw h (
        text_items bs,
        bs,
        drop n bs,
        refl,
        whole.reads,
        elim (stops false bs) [
          | inl e ↦ inl e
          | inr e ↦ inr (newline_left (drop n bs) e h)
        ],
      )
    ]

equal_front_is : (c : ℕ) (bs : List ℕ) (short long : TokenKind) → IsToken short (c ∷ []) → IsToken long (c ∷ 61 ∷ []) → IsFront c bs (or_equal short long bs)
equal_front_is c bs short long one two = elim (cases_Bool (begins_with 61 bs)) [
  | inl h ↦ let next = begins_with_tells 61 bs h in
      rw h (omega arith, omega (arith, ap length next.1), subst (λ x. IsToken long (take 2 (c ∷ x))) (sym next.1) two)
  | inr h ↦ rw h (omega arith, omega arith, one)
]

twice_front_is : (c : ℕ) (bs : List ℕ) (kind : TokenKind) → c ≢ 34 → IsToken kind (c ∷ c ∷ []) → IsFront c bs (twice c kind bs)
twice_front_is c bs kind ne two = elim (cases_Bool (begins_with c bs)) [
  | inl h ↦ let next = begins_with_tells c bs h in
      rw h (omega arith, omega (arith, ap length next.1), subst (λ x. IsToken kind (take 2 (c ∷ x))) (sym next.1) two)
  | inr h ↦ rw h ne
]

mark_or : (c b : ℕ) (bs : List ℕ) (here other : Front) → (b ≡ c → IsFront b bs here) → IsFront b bs other → IsFront b bs (if b == c then here else other)
mark_or c b bs here other h more = elim (eqb_tells b c) [
  | inl e ↦ rw e.0 (h e.1)
  | inr e ↦ rw e.0 more
]

equal_or : (c b : ℕ) (bs : List ℕ) (short long : TokenKind) (other : Front) → IsToken short (c ∷ []) → IsToken long (c ∷ 61 ∷ []) → IsFront b bs other →
    IsFront b bs (if b == c then or_equal short long bs else other)
equal_or c b bs short long other one two more =
    mark_or c b bs (or_equal short long bs) other (λ e. subst (λ x. IsFront x bs (or_equal short long bs)) (sym e) (equal_front_is c bs short long one two)) more

twice_or : (c b : ℕ) (bs : List ℕ) (kind : TokenKind) (other : Front) → c ≢ 34 → IsToken kind (c ∷ c ∷ []) → IsFront b bs other → IsFront b bs (if b == c then twice c kind bs else other)
twice_or c b bs kind other ne two more =
    mark_or c b bs (twice c kind bs) other (λ e. subst (λ x. IsFront x bs (twice c kind bs)) (sym e) (twice_front_is c bs kind ne two)) more

one_or : (c b : ℕ) (bs : List ℕ) (kind : TokenKind) (other : Front) → IsToken kind (c ∷ []) → IsFront b bs other → IsFront b bs (if b == c then Found kind 1 else other)
one_or c b bs kind other one more =
    mark_or c b bs (Found kind 1) other (λ e. (omega arith, omega arith, subst (λ x. IsToken kind (x ∷ [])) (sym e) one)) more

mark_front_is : (b : ℕ) (bs : List ℕ) → b ≢ 34 → IsFront b bs (front_mark b bs)
mark_front_is b bs ne =
    equal_or 61 b bs k.Assign k.Equal _ refl refl (equal_or 43 b bs k.Plus k.AddAssign _ refl refl (equal_or 45 b bs k.Minus k.SubAssign _ refl refl (
    equal_or 33 b bs k.Not k.NotEqual _ refl refl (equal_or 60 b bs k.Less k.LessEqual _ refl refl (equal_or 62 b bs k.Greater k.GreaterEqual _ refl refl (
    twice_or 38 b bs k.And _ (λ e. omega arith) refl (twice_or 124 b bs k.Or _ (λ e. omega arith) refl (
    one_or 46 b bs k.Dot _ refl (one_or 44 b bs k.Comma _ refl (one_or 40 b bs k.OpenParen _ refl (one_or 41 b bs k.CloseParen _ refl (
    one_or 91 b bs k.OpenBracket _ refl (one_or 93 b bs k.CloseBracket _ refl (one_or 123 b bs k.OpenBrace _ refl (one_or 125 b bs k.CloseBrace _ refl ne)))))))))))))))

pub front_is : (b : ℕ) (bs : List ℕ) → IsFront b bs (front_of b bs)
front_is b bs = elim (cases_Bool (is_letter b)) [
  | inl l ↦ rw l (word_front_is b bs l)
  | inr l ↦ elim (cases_Bool (begins_run (b ∷ bs))) [
    | inl r ↦ subst (IsFront b bs) (sym (front_of_run b bs r)) (number_front_is b bs (integer_len (b ∷ bs)) r (integer_len_is (b ∷ bs)))
    | inr r ↦ elim (eqb_tells b 34) [
      | inl q ↦ rw (l, r, q.0) (subst (λ x. IsFront x bs (front_string (text_len false bs) bs)) (sym q.1) (string_front_is bs))
      | inr q ↦ rw (l, r, q.0) (mark_front_is b bs q.1)
    ]
  ]
]

-- A run that is no integer is never cut.
abbrev pub NoToken : Front → Type 0
NoToken (Found kind len) = ⊥
NoToken _ = Unit {0}

pub bad_run_no_token : (b : ℕ) (bs : List ℕ) (len : ℕ) → IsBadRun (b ∷ bs) len → NoToken (front_of b bs)
bad_run_no_token b bs len bad =
    let here = bad_run_here (b ∷ bs) len bad in
    subst NoToken (sym (front_of_run b bs here.0)) (subst (λ x. NoToken (front_number x)) (sym here.1) tt)
