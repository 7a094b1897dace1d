-- The pieces of a string have the positions of their bytes in the file.
use Rattle.std.proofs.Common.{◌≡◌, ◌≢◌, ℕ, zero, suc, ◌+◌, ◌-◌, ◌≤◌, ◌==◌, Bool, true, false, not, cond, List, [], ◌∷◌, ◌++◌, length, take, drop, refl, sym, ◌∙◌, ap, subst, arith, append_assoc, append-nil, All, IsTrue, ◌⊎◌, inl, inr, true≢false, length-append}
use Rattle.std.specs.List.{prefix_len, count_by, slice_range}
use Rattle.std.proofs.lemmas.List.{reverse-append, take-take}
use Rattle.std.proofs.lemmas.List.Elements.{All-head, All-tail}
use Rattle.std.proofs.lemmas.List.Sums.{sum_by-append}
use Rattle.std.proofs.lemmas.Bool.{eqb-true}
use Rattle.std.proofs.Math.Seq.{take-add, take-append_seam}
use Rattle.gn_tree.specs.declared.position.Position.{Position}
use Rattle.gn_tokens.specs.Bytes.{is_letter, is_word_byte, is_digit, is_hex_digit, is_escapable, IsWord, IsIdentifier}
use Rattle.gn_tokens.specs.Number.{IsDigits, IsNumeral, IsInteger}
use Rattle.gn_tokens.specs.Text.{Item, Plain, Escape, Hex, Variable, Braced, Element, Field, item_bytes, IsItem, Reads, IsString, text_items, placed, string_items, AllExpand}
use Rattle.gn_grammar.specs.Position.{counted, line_behind, column_behind, further}
use Rattle.gn_grammar.specs.Laws.{StandRightly}

abbrev NoNewline : List ℕ → Type 0
NoNewline [] = Unit {0}
NoNewline (b ∷ bs) = ((b == 10) ≡ false) × NoNewline bs

no_newline_append : (bs cs : List ℕ) → NoNewline bs → NoNewline cs → NoNewline (bs ++ cs)
no_newline_append [] cs h i = i
no_newline_append (b ∷ bs) cs h i = (h.0, no_newline_append bs cs h.1 i)

-- What passes a test that a newline does not pass is none.
no_pass : (b : ℕ) → b ≢ 10 → (b == 10) ≡ false
no_pass b ne = by (b == 10) refl
  where
    by : (v : Bool) → (b == 10) ≡ v → v ≡ false
    by false e = refl
    by true e = absurd (ne (eqb-true b 10 e))

passes : (p : ℕ → Bool) (b : ℕ) → p 10 ≡ false → IsTrue (p b) → (b == 10) ≡ false
passes p b ten h = no_pass b (λ e. true≢false (sym h ∙ ap p e ∙ ten))

all_pass : (p : ℕ → Bool) (bs : List ℕ) → p 10 ≡ false → All (λ c. IsTrue (p c)) bs → NoNewline bs
all_pass p [] ten h = tt
all_pass p (b ∷ bs) ten h = (passes p b ten (All-head (λ c. IsTrue (p c)) b bs h), all_pass p bs ten (All-tail (λ c. IsTrue (p c)) b bs h))

word_one_line : (bs : List ℕ) → IsWord bs → NoNewline bs
word_one_line [] h = absurd h
word_one_line (b ∷ bs) h = (passes is_letter b refl h.0, all_pass is_word_byte bs refl h.1)

name_one_line : (bs : List ℕ) → IsIdentifier bs → NoNewline bs
name_one_line bs h = word_one_line bs h.0

digits_one_line : (bs : List ℕ) → IsDigits bs → NoNewline bs
digits_one_line [] h = absurd h
digits_one_line (b ∷ bs) h = all_pass is_digit (b ∷ bs) refl h

numeral_one_line : (bs : List ℕ) → IsNumeral bs → NoNewline bs
numeral_one_line [] h = absurd h
numeral_one_line (b ∷ bs) h = digits_one_line (b ∷ bs) h.0

integer_one_line : (bs : List ℕ) → IsInteger bs → NoNewline bs
integer_one_line bs (inl h) = numeral_one_line bs h.0
integer_one_line bs (inr h) = subst NoNewline (sym h.1) (refl, numeral_one_line h.0 h.2)

index_one_line : (bs : List ℕ) → IsIdentifier bs ⊎ IsInteger bs → NoNewline bs
index_one_line bs (inl h) = name_one_line bs h
index_one_line bs (inr h) = integer_one_line bs h

-- The bytes of an item are in one line.
item_one_line : (item : Item) (rest : List ℕ) → IsItem item rest → NoNewline (item_bytes item)
item_one_line (Plain b) rest h = (no_pass b h.1, tt)
item_one_line (Escape b) rest h = (refl, (passes is_escapable b refl h, tt))
item_one_line (Hex a b) rest h = (refl, (refl, (refl, (passes is_hex_digit a refl h.0, (passes is_hex_digit b refl h.1, tt)))))
item_one_line (Variable name) rest h = (refl, name_one_line name h.0)
item_one_line (Braced name) rest h = (refl, (refl, no_newline_append name (125 ∷ []) (name_one_line name h) (refl, tt)))
item_one_line (Element name index) rest h = (
  refl,
  (
    refl,
    no_newline_append name (91 ∷ (index ++ 93 ∷ 125 ∷ [])) (name_one_line name h.0)
        (refl, no_newline_append index (93 ∷ 125 ∷ []) (index_one_line index h.1) (refl, (refl, tt))),
  ),
)
item_one_line (Field name entry) rest h =
    (refl, (refl, no_newline_append name (46 ∷ (entry ++ 125 ∷ [])) (name_one_line name h.0) (refl, no_newline_append entry (125 ∷ []) (name_one_line entry h.1) (refl, tt))))

-- the position behind the bytes with which a file begins
abbrev position_after : List ℕ → Position
position_after before = record { line = counted (line_behind before); column = counted (column_behind before) }

abbrev pub at : ℕ → ℕ → Position
at l c = record { line = l; column = c }

pub same_place : (l c m d : ℕ) → l ≡ m → c ≡ d → at l c ≡ at m d
same_place l c m d e f = λ i. at (e i) (f i)

line_kept : (before : List ℕ) (b : ℕ) → (b == 10) ≡ false → line_behind (before ++ b ∷ []) ≡ line_behind before
line_kept before b h =
    let one : count_by (λ x. x == 10) (b ∷ []) ≡ 0 = rw h (omega arith) in
    ap (λ n. n + 1) (sum_by-append (λ x. cond (x == 10) 1 0) before (b ∷ [])) ∙ omega (arith, one)

column_one_more : (before : List ℕ) (b : ℕ) → (b == 10) ≡ false → column_behind (before ++ b ∷ []) ≡ column_behind before + 1
column_one_more before b h =
    ap (λ bs. prefix_len (λ x. not (x == 10)) bs + 1) (reverse-append before (b ∷ [])) ∙ rw h (omega arith)

-- A byte that is no newline is one column.
one_further : (before : List ℕ) (b : ℕ) → (b == 10) ≡ false → position_after (before ++ b ∷ []) ≡ further 1 (position_after before)
one_further before b h =
    let l = line_kept before b h in
    let c = column_one_more before b h in
    same_place (counted (line_behind (before ++ b ∷ []))) (counted (column_behind (before ++ b ∷ []))) (counted (line_behind before))
    (counted (counted (column_behind before) + 1)) (ap counted l) (omega (arith, c))

further_twice : (n : ℕ) (p : Position) → further n (further 1 p) ≡ further (suc n) p
further_twice n p = same_place p.line (counted (counted (p.column + 1) + n)) p.line (counted (p.column + suc n)) refl (omega arith)

further_none : (before : List ℕ) → position_after before ≡ further 0 (position_after before)
further_none before = same_place (counted (line_behind before)) (counted (column_behind before)) (counted (line_behind before))
    (counted (counted (column_behind before) + 0)) refl (omega arith)

-- Bytes without a newline are as many columns.
columns : (bs before : List ℕ) → NoNewline bs → position_after (before ++ bs) ≡ further (length bs) (position_after before)
columns [] before h = ap position_after (append-nil before) ∙ further_none before
columns (b ∷ bs) before h =
    ap position_after (sym (append_assoc before (b ∷ []) bs)) ∙ columns bs (before ++ b ∷ []) h.1
    ∙ ap (further (length bs)) (one_further before b h.0) ∙ further_twice (length bs) (position_after before)

-- The items of a text, behind these bytes of it, stand where their positions say.
abbrev Standing : List ℕ → List ℕ → List (ℕ × Item) → Type 0
Standing before text [] = Unit {0}
Standing before text (item ∷ items) =
    (item.0 ≤ length text) × (further item.0 (position_after before) ≡ position_after (before ++ take item.0 text)) × Standing before text items

walk : (items : List Item) (before text read left : List ℕ) → text ≡ read ++ left → NoNewline read → Reads items left (34 ∷ []) →
    Standing before text (placed (length read) items)
walk [] before text read left e h i = tt
walk (item ∷ items) before text read left e h i =
    let whole : length text ≡ length read + length left = ap length e ∙ length-append read left in
    let here : take (length read) text ≡ read = ap (take (length read)) e ∙ take-append_seam read left in
    let later = walk items before text (read ++ item_bytes item) i.0 (e ∙ ap (λ z. read ++ z) i.1 ∙ sym (append_assoc read (item_bytes item) i.0))
    (no_newline_append read (item_bytes item) h (item_one_line item i.0 i.2)) i.3 in (
      omega (arith, whole),
      sym (columns read before h) ∙ ap (λ z. position_after (before ++ z)) (sym here),
      subst (λ n. Standing before text (placed n items)) (length-append read (item_bytes item)) later,
    )

-- the same in a file
in_file : (items : List (ℕ × Item)) (bytes : List ℕ) (start n : ℕ) → length (take n (drop start bytes)) ≤ n → Standing (take start bytes) (take n (drop start bytes)) items →
    StandRightly bytes start items
in_file [] bytes start n le h = tt
in_file (item ∷ items) bytes start n le h =
    let small : item.0 ≤ n = omega (arith, h.0) in
    let whole : take (start + item.0) bytes ≡ take start bytes ++ take item.0 (take n (drop start bytes)) =
    take-add start item.0 bytes ∙ ap (λ z. take start bytes ++ z) (sym (take-take item.0 n (drop start bytes) small)) in
    (h.1 ∙ ap position_after (sym whole), in_file items bytes start n le h.2)

-- What gn_tokens says of a string: the bytes behind its opening quote are its items and then the closing quote.
abbrev pub StringsAreItems : Type 0
StringsAreItems = (text : List ℕ) → IsString (34 ∷ text) → Reads (text_items text) text (34 ∷ []) × AllExpand (text_items text)

pub pieces_stand : StringsAreItems → (bytes : List ℕ) (start end : ℕ) → IsString (slice_range bytes start end) →
    StandRightly bytes start (string_items 1 (drop 1 (slice_range bytes start end)))
pieces_stand law bytes start end h =
    let n = end - start in
    let text = h.1 in
    let opened : slice_range bytes start end ≡ 34 ∷ text = h.2 in
    let reads = (law text (subst IsString opened h)).0 in
    let standing = walk (text_items text) (take start bytes) (34 ∷ text) (34 ∷ []) text refl (refl, tt) reads in
    let moved : Standing (take start bytes) (take n (drop start bytes)) (string_items 1 (drop 1 (34 ∷ text))) =
    subst (λ z. Standing (take start bytes) z (string_items 1 text)) (sym opened) standing in
    subst (λ z. StandRightly bytes start (string_items 1 (drop 1 z))) (sym opened)
    (in_file (string_items 1 text) bytes start n (take_le n (drop start bytes)) moved)
  where
    take_le : (n : ℕ) (bs : List ℕ) → length (take n bs) ≤ n
    take_le zero bs = omega arith
    take_le (suc n) [] = omega arith
    take_le (suc n) (b ∷ bs) = omega (arith, take_le n bs)
