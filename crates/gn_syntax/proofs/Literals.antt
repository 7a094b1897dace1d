-- String literals, read from the left.
use Rattle.std.proofs.Common.{◌≡◌, ◌≢◌, ◌⊎◌, ℕ, zero, suc, ◌+◌, ◌-◌, ◌≤◌, true, false, not, ◌&&◌, ◌==◌, List, [], ◌∷◌, ◌++◌, length, take, drop, IsTrue, refl, sym, ◌∙◌, ap, subst, inl, inr, arith, append_assoc, length-append}
use Rattle.std.proofs.lemmas.Bool.{cases_Bool}
use Rattle.std.proofs.lemmas.Bool.Decides.{eqb_tells}
use Rattle.std.proofs.lemmas.List.{drop-drop}
use Rattle.gn_basics.proofs.Tests.{first_true, second_true}
use Rattle.gn_tree.specs.declared.position.Position.{Position}
use Rattle.gn_tree.specs.declared.piece.Piece.{Piece}
use Rattle.gn_tree.specs.declared.piece.Piece.TheVariants as piece
use Rattle.gn_tree.specs.declared.piece.Subscript.{Subscript}
use Rattle.gn_tokens.specs.Bytes.{IsIdentifier, is_letter, is_hex_digit, is_escapable, begins, begins_with, front_word, past_word, is_name}
use Rattle.gn_tokens.specs.Number.{IsInteger, begins_run, run_len, is_integer}
use Rattle.gn_tokens.specs.Text.{Item, Plain, Escape, Hex, Variable, Braced, Element, Field, item_bytes, Reads, AllExpand, IsItem, IsString, is_stop, expands, is_braced, is_braced_end, is_hex, index_len, closes_behind, front_index, first_or_zero, braced_item, hex_item, expansion_item, front_item, items_from, items_skip, text_items, placed, string_items}
use Rattle.gn_grammar.specs.Position.{further}
use Rattle.gn_grammar.specs.Pieces.{byte_before, item_before, pieces_from, pieces_of, subscript_of}
use Rattle.gn_syntax.specs.Literals.{run_before, run_pieces, meaning, IsPiece, Expands, IsRest, Took, Stepped, IsWritten, IsBraced}

run_push : (run : List ℕ) (b : ℕ) (later : List Piece) → run_before (run ++ b ∷ []) later ≡ run_before run (byte_before b later)
run_push [] b later = refl
run_push (c ∷ cs) b later = ap (byte_before c) (run_push cs b later)

joined : (b : ℕ) (bs : List ℕ) → byte_before b (run_pieces bs) ≡ piece.Bytes (b ∷ bs) ∷ []
joined b [] = refl
joined b (c ∷ cs) = refl

pub run_alone : (run : List ℕ) → run_before run [] ≡ run_pieces run
run_alone [] = refl
run_alone (b ∷ bs) = ap (byte_before b) (run_alone bs) ∙ joined b bs

apart_from : (b : ℕ) (bs : List ℕ) (p : Piece) (later : List Piece) → byte_before b (p ∷ later) ≡ piece.Bytes (b ∷ []) ∷ p ∷ later →
    byte_before b (run_pieces bs ++ p ∷ later) ≡ run_pieces (b ∷ bs) ++ p ∷ later
apart_from b [] p later h = h
apart_from b (c ∷ cs) p later h = refl

run_apart : (run : List ℕ) (p : Piece) (later : List Piece) → ((b : ℕ) (l : List Piece) → byte_before b (p ∷ l) ≡ piece.Bytes (b ∷ []) ∷ p ∷ l) →
    run_before run (p ∷ later) ≡ run_pieces run ++ p ∷ later
run_apart [] p later h = refl
run_apart (b ∷ bs) p later h = ap (byte_before b) (run_apart bs p later h) ∙ apart_from b bs p later (h b later)

pub took_byte : (position : Position) (item : Item) (b : ℕ) (before : List Piece) (run : List ℕ) (after : List Piece) (run2 : List ℕ) → after ≡ before → run2 ≡ run ++ b ∷ [] →
    ((later : List Piece) → item_before position item later ≡ byte_before b later) → Took position item before run after run2
took_byte position item b before run after run2 e f is = record {
  same = λ later. (λ i. e i ++ run_before (f i) later) ∙ ap (λ x. before ++ x) (run_push run b later ∙ ap (run_before run) (sym (is later)));
}

pub took_piece : (position : Position) (item : Item) (p : Piece) (before : List Piece) (run : List ℕ) (after : List Piece) (run2 : List ℕ) →
    after ≡ (before ++ run_pieces run) ++ p ∷ [] → run2 ≡ [] → IsPiece position item p → Took position item before run after run2
took_piece position item p before run after run2 e f h = record {
  same = λ later. (λ i. e i ++ run_before (f i) later)
      ∙ append_assoc (before ++ run_pieces run) (p ∷ []) later ∙ append_assoc before (run_pieces run) (p ∷ later)
      ∙ ap (λ x. before ++ x) (sym (run_apart run p later h.apart) ∙ ap (run_before run) (sym (h.is later)));
}

-- Items one after the other.
abbrev len_of : ℕ → List ℕ → ℕ
len_of b bs = length (item_bytes (front_item b bs))

items_here : (b : ℕ) (bs : List ℕ) → is_stop b ≡ false → text_items (b ∷ bs) ≡ front_item b bs ∷ text_items (drop (len_of b bs - 1) bs)
items_here b bs h = rw h (ap (λ x. front_item b bs ∷ x) (items_skip (len_of b bs - 1) bs))

some_bytes : (item : Item) → 1 ≤ length (item_bytes item)
some_bytes (Plain b) = omega arith
some_bytes (Escape b) = omega arith
some_bytes (Hex high low) = omega arith
some_bytes (Variable name) = omega arith
some_bytes (Braced name) = omega arith
some_bytes (Element name index) = omega arith
some_bytes (Field name field) = omega arith

drop_front : (xs ys : List ℕ) → drop (length xs) (xs ++ ys) ≡ ys
drop_front [] ys = refl
drop_front (x ∷ xs) ys = drop_front xs ys

drop_one : (n b : ℕ) (bs : List ℕ) → 1 ≤ n → drop n (b ∷ bs) ≡ drop (n - 1) bs
drop_one zero b bs h = absurd (omega arith)
drop_one (suc n) b bs h = let e : suc n - 1 ≡ n = omega arith in rw e refl

-- what stands behind the item at the front
later_is : (b : ℕ) (bs later : List ℕ) → b ∷ bs ≡ item_bytes (front_item b bs) ++ later → later ≡ drop (len_of b bs - 1) bs
later_is b bs later e = sym (drop_front (item_bytes (front_item b bs)) later) ∙ ap (drop (len_of b bs)) (sym e) ∙ drop_one (len_of b bs) b bs (some_bytes (front_item b bs))

abbrev Front : ℕ → List ℕ → Type 0
Front b bs = Reads (front_item b bs ∷ text_items (drop (len_of b bs - 1) bs)) (b ∷ bs) (34 ∷ [])

front_reads : (b : ℕ) (bs : List ℕ) → is_stop b ≡ false → IsRest (b ∷ bs) → Front b bs
front_reads b bs h r = subst (λ (items : List Item). Reads items (b ∷ bs) (34 ∷ [])) (items_here b bs h) r.reads

rest_step : (b : ℕ) (bs : List ℕ) → is_stop b ≡ false → IsRest (b ∷ bs) → IsRest (drop (len_of b bs - 1) bs)
rest_step b bs h r =
    let f : Front b bs = front_reads b bs h r in
    let all : AllExpand (front_item b bs ∷ text_items (drop (len_of b bs - 1) bs)) = subst (λ (items : List Item). AllExpand items) (items_here b bs h) r.expand in
    record {
      reads = subst (λ (x : List ℕ). Reads (text_items (drop (len_of b bs - 1) bs)) x (34 ∷ [])) (later_is b bs f.0 f.1) f.3;
      expand = λ k d lt. all (suc k) d (omega arith);
    }

rest_fits : (b : ℕ) (bs : List ℕ) → is_stop b ≡ false → IsRest (b ∷ bs) → len_of b bs ≤ length (b ∷ bs)
rest_fits b bs h r = let f : Front b bs = front_reads b bs h r in omega (arith, ap length f.1, length-append (item_bytes (front_item b bs)) f.0)

dollar_item : (bs : List ℕ) → expands bs ≡ true → front_item 36 bs ≡ expansion_item bs
dollar_item bs h = rw h refl

lone_dollar : (bs : List ℕ) → expands bs ≡ false → front_item 36 bs ≡ Plain 36
lone_dollar bs h = rw h refl

expands_here : (bs : List ℕ) → IsRest (36 ∷ bs) → Expands bs
expands_here bs r =
    let f : Front 36 bs = front_reads 36 bs refl r in
    let all : AllExpand (front_item 36 bs ∷ text_items (drop (len_of 36 bs - 1) bs)) = subst (λ (items : List Item). AllExpand items) (items_here 36 bs refl) r.expand in
    elim (cases_Bool (expands bs)) [
      | inl e ↦ record { is_right = e; later = f.0; item = subst (λ (item : Item). IsItem item f.0) (dollar_item bs e) f.2 }
      | inr e ↦ absurd (all 0 (Plain 36) (omega arith) (lone_dollar bs e))
    ]

pub front_right : (b : ℕ) (bytes rest : List ℕ) → bytes ≡ b ∷ drop 1 bytes → rest ≡ drop 1 bytes → IsRest bytes → b ≡ 36 → Expands rest
front_right b bytes rest e f r is =
    let whole : bytes ≡ 36 ∷ rest = e ∙ (λ i. is i ∷ sym f i) in expands_here rest (subst (λ (x : List ℕ). IsRest x) whole r)

string_here : (at b : ℕ) (bs : List ℕ) → is_stop b ≡ false → string_items at (b ∷ bs) ≡ (at, front_item b bs) ∷ string_items (at + len_of b bs) (drop (len_of b bs - 1) bs)
string_here at b bs h = ap (λ (items : List Item). placed at items) (items_here b bs h)

stepped_here : (position : Position) (at b : ℕ) (bs : List ℕ) (before : List Piece) (run : List ℕ) (after : List Piece) (run2 : List ℕ) → is_stop b ≡ false → IsRest (b ∷ bs) →
    Took (further at position) (front_item b bs) before run after run2 → Stepped position at (b ∷ bs) before run after run2 (len_of b bs)
stepped_here position at b bs before run after run2 h r t =
    let d : drop (len_of b bs) (b ∷ bs) ≡ drop (len_of b bs - 1) bs = drop_one (len_of b bs) b bs (some_bytes (front_item b bs)) in
    record {
      within = rest_fits b bs h r;
      same = ap (meaning position after run2 (at + len_of b bs)) d
          ∙ t.same (pieces_from position (string_items (at + len_of b bs) (drop (len_of b bs - 1) bs)))
          ∙ ap (λ items. before ++ run_before run (pieces_from position items)) (sym (string_here at b bs h));
      rest = subst (λ (x : List ℕ). IsRest x) (sym d) (rest_step b bs h r);
      stops = λ e. absurd (omega (arith, some_bytes (front_item b bs)));
    }

pub stepped_item : (position : Position) (at b n : ℕ) (bytes rest : List ℕ) (before : List Piece) (run : List ℕ) (after : List Piece) (run2 : List ℕ) → bytes ≡ b ∷ drop 1 bytes → rest ≡ drop 1 bytes →
    is_stop b ≡ false → IsRest bytes → n ≡ length (item_bytes (front_item b rest)) → Took (further at position) (front_item b rest) before run after run2 →
    Stepped position at bytes before run after run2 n
stepped_item position at b n bytes rest before run after run2 e f h r en t =
    let whole : bytes ≡ b ∷ rest = e ∙ ap (λ x. b ∷ x) (sym f) in
    subst (λ (m : ℕ). Stepped position at bytes before run after run2 m) (sym en)
    (subst (λ (x : List ℕ). Stepped position at x before run after run2 (len_of b rest)) (sym whole)
    (stepped_here position at b rest before run after run2 h (subst (λ (x : List ℕ). IsRest x) whole r) t))

stays : (position : Position) (at : ℕ) (bytes : List ℕ) (before : List Piece) (run : List ℕ) → string_items at bytes ≡ [] → IsRest bytes → Stepped position at bytes before run before run 0
stays position at bytes before run e r = record {
  within = omega arith;
  same = (let same : at + 0 ≡ at = omega arith in ap (λ (a : ℕ). meaning position before run a bytes) same);
  rest = r;
  stops = λ _. e;
}

pub stepped_end : (position : Position) (at : ℕ) (bytes : List ℕ) (before : List Piece) (run : List ℕ) → bytes ≡ [] → IsRest bytes → Stepped position at bytes before run before run 0
stepped_end position at bytes before run e r = stays position at bytes before run (ap (string_items at) e) r

stop_here : (at b : ℕ) (bs : List ℕ) → is_stop b ≡ true → string_items at (b ∷ bs) ≡ []
stop_here at b bs h = rw h refl

pub stepped_stop : (position : Position) (at b : ℕ) (bytes : List ℕ) (before : List Piece) (run : List ℕ) → bytes ≡ b ∷ drop 1 bytes → is_stop b ≡ true → IsRest bytes →
    Stepped position at bytes before run before run 0
stepped_stop position at b bytes before run e h r = stays position at bytes before run (ap (string_items at) e ∙ stop_here at b (drop 1 bytes) h) r

-- The item at the front.
pub front_plain : (b : ℕ) (bs : List ℕ) → b ≢ 36 → (b == 92 && begins is_escapable bs) ≡ false → front_item b bs ≡ Plain b
front_plain b bs ne h = elim (eqb_tells b 36) [
  | inl x ↦ absurd (ne x.1)
  | inr x ↦ rw (h, x.0) refl
]

pub front_escape : (b : ℕ) (bs : List ℕ) → (b == 92 && begins is_escapable bs) ≡ true → front_item b bs ≡ Escape (first_or_zero bs)
front_escape b bs h = rw h refl

pub front_dollar : (b : ℕ) (bs : List ℕ) → b ≡ 36 → Expands bs → front_item b bs ≡ expansion_item bs
front_dollar b bs e h = ap (λ x. front_item x bs) e ∙ dollar_item bs h.is_right

-- What stands behind a `$`.
abbrev IsHexFront : List ℕ → Type 0
IsHexFront bs = (is_hex bs ≡ true) × (expansion_item bs ≡ hex_item bs)

pub hex_front : (bs : List ℕ) → begins_with 48 bs ≡ true → expands bs ≡ true → IsHexFront bs
hex_front [] h e = absurd cc
hex_front (b ∷ bs) h e = elim (eqb_tells b 48) [
  | inl x ↦ subst (λ (z : ℕ). expands (z ∷ bs) ≡ true → IsHexFront (z ∷ bs)) (sym x.1) (λ k. (k, refl)) e
  | inr x ↦ absurd (let k = x.0 in cc)
]

no_hex : (bs : List ℕ) → begins_with 48 bs ≡ false → is_hex bs ≡ false
no_hex [] h = refl
no_hex (b ∷ []) h = refl
no_hex (b ∷ c ∷ []) h = refl
no_hex (b ∷ c ∷ d ∷ []) h = refl
no_hex (b ∷ c ∷ d ∷ e ∷ bs) h = rw h refl

pub name_front : (bs : List ℕ) → begins_with 48 bs ≡ false → begins_with 123 bs ≡ false → expands bs ≡ true → expansion_item bs ≡ Variable (front_word bs)
name_front bs h b e = elim (cases_Bool (is_name bs)) [
  | inl n ↦ rw (b, n) refl
  | inr n ↦ absurd (let k = rw (b, n, no_hex bs h) at e in cc)
]

pub brace_front : (bs : List ℕ) → begins_with 123 bs ≡ true → expands bs ≡ true → (is_braced (drop 1 bs) ≡ true) × (expansion_item bs ≡ braced_item (front_word (drop 1 bs)) (past_word (drop 1 bs)))
brace_front bs b e = (let k : is_braced (drop 1 bs) ≡ true = rw b at e in k, rw b refl)

pub index_word : (bs : List ℕ) → begins is_letter bs ≡ true → closes_behind (index_len bs) bs ≡ true → front_word bs ≡ front_index (index_len bs) bs
index_word bs l h = elim (cases_Bool (is_name bs)) [
  | inl m ↦ rw (m, l) refl
  | inr m ↦ absurd (let k = rw (m, l) at h in cc)
]

pub index_digits : (bs : List ℕ) → begins is_letter bs ≡ false → closes_behind (index_len bs) bs ≡ true → take (run_len bs) bs ≡ front_index (index_len bs) bs
index_digits bs l h = elim (cases_Bool (begins_run bs && (is_integer (take (run_len bs) bs) && not (begins is_letter (drop (run_len bs) bs))))) [
  | inl m ↦ rw (m, l) refl
  | inr m ↦ absurd (let k = rw (m, l) at h in cc)
]

written_name : (position : Position) (x : List ℕ) (n : ℕ) → n ≡ length x + 1 → IsWritten position (Variable x) (piece.Name position x) n
written_name position x n e = record { piece = record { is = λ later. refl; apart = λ b later. refl }; len = omega arith }

written_braced : (position : Position) (x : List ℕ) (n : ℕ) → n ≡ length x + 3 → IsWritten position (Braced x) (piece.Name position x) n
written_braced position x n e = record { piece = record { is = λ later. refl; apart = λ b later. refl }; len = omega (arith, length-append x (125 ∷ [])) }

written_field : (position : Position) (x y : List ℕ) (n : ℕ) → n ≡ length x + length y + 4 → IsWritten position (Field x y) (piece.Entry position x y) n
written_field position x y n e =
    record { piece = record { is = λ later. refl; apart = λ b later. refl }; len = omega (arith, length-append x (46 ∷ (y ++ 125 ∷ [])), length-append y (125 ∷ [])) }

written_element : (position : Position) (x y : List ℕ) (s : Subscript) (n : ℕ) → s ≡ subscript_of y → n ≡ length x + length y + 5 → IsWritten position (Element x y) (piece.Item position x s) n
written_element position x y s n f e = record {
  piece = record { is = λ later. ap (λ z. piece.Item position x z ∷ later) (sym f); apart = λ b later. refl };
  len = omega (arith, length-append x (91 ∷ (y ++ 93 ∷ 125 ∷ [])), length-append y (93 ∷ 125 ∷ []));
}

pub variable_written : (position : Position) (bs x : List ℕ) (n : ℕ) → begins_with 48 bs ≡ false → begins_with 123 bs ≡ false → Expands bs → x ≡ front_word bs → n ≡ length x + 1 →
    IsWritten position (expansion_item bs) (piece.Name position x) n
variable_written position bs x n h b e f en =
    let same : expansion_item bs ≡ Variable x = name_front bs h b e.is_right ∙ ap Variable (sym f) in
    subst (λ (i : Item). IsWritten position i (piece.Name position x) n) (sym same) (written_name position x n en)

pub braced_here : (bs cs : List ℕ) → begins_with 123 bs ≡ true → Expands bs → cs ≡ drop 1 bs → IsBraced cs
braced_here bs cs b e f =
    let both = brace_front bs b e.is_right in
    subst (λ (x : List ℕ). IsBraced x) (sym f) (record { is_right = both.0; later = e.later; item = subst (λ (i : Item). IsItem i e.later) both.1 e.item })

pub braced_written : (position : Position) (bs cs : List ℕ) (p : Piece) (n : ℕ) → begins_with 123 bs ≡ true → Expands bs → cs ≡ drop 1 bs →
    IsWritten position (braced_item (front_word cs) (past_word cs)) p n → IsWritten position (expansion_item bs) p n
braced_written position bs cs p n b e f w =
    let both = brace_front bs b e.is_right in
    let same : braced_item (front_word cs) (past_word cs) ≡ expansion_item bs = ap (λ x. braced_item (front_word x) (past_word x)) f ∙ sym both.1 in
    subst (λ (i : Item). IsWritten position i p n) same w

named_item : (nm r : List ℕ) → begins_with 125 r ≡ true → braced_item nm r ≡ Braced nm
named_item nm r h = rw h refl

field_item : (nm r : List ℕ) → begins_with 125 r ≡ false → begins_with 46 r ≡ true → braced_item nm r ≡ Field nm (front_word (drop 1 r))
field_item nm r h k = rw (h, k) refl

element_item : (nm r : List ℕ) → begins_with 125 r ≡ false → begins_with 46 r ≡ false → braced_item nm r ≡ Element nm (front_index (index_len (drop 1 r)) (drop 1 r))
element_item nm r h k = rw (h, k) refl

pub name_written : (position : Position) (cs nm r : List ℕ) (n : ℕ) → nm ≡ front_word cs → r ≡ past_word cs → begins_with 125 r ≡ true → n ≡ length nm + 3 →
    IsWritten position (braced_item (front_word cs) (past_word cs)) (piece.Name position nm) n
name_written position cs nm r n e f h en =
    let same : Braced nm ≡ braced_item (front_word cs) (past_word cs) = sym (named_item nm r h) ∙ (λ i. braced_item (e i) (f i)) in
    subst (λ (i : Item). IsWritten position i (piece.Name position nm) n) same (written_braced position nm n en)

pub field_written : (position : Position) (cs nm r y : List ℕ) (n : ℕ) → nm ≡ front_word cs → r ≡ past_word cs → begins_with 125 r ≡ false → begins_with 46 r ≡ true →
    y ≡ front_word (drop 1 r) → n ≡ length nm + length y + 4 → IsWritten position (braced_item (front_word cs) (past_word cs)) (piece.Entry position nm y) n
field_written position cs nm r y n e f h k g en =
    let same : Field nm y ≡ braced_item (front_word cs) (past_word cs) = ap (Field nm) g ∙ sym (field_item nm r h k) ∙ (λ i. braced_item (e i) (f i)) in
    subst (λ (i : Item). IsWritten position i (piece.Entry position nm y) n) same (written_field position nm y n en)

pub element_written : (position : Position) (cs nm r y : List ℕ) (s : Subscript) (n : ℕ) → nm ≡ front_word cs → r ≡ past_word cs → begins_with 125 r ≡ false → begins_with 46 r ≡ false →
    y ≡ front_index (index_len (drop 1 r)) (drop 1 r) → s ≡ subscript_of y → n ≡ length nm + length y + 5 →
    IsWritten position (braced_item (front_word cs) (past_word cs)) (piece.Item position nm s) n
element_written position cs nm r y s n e f h k g su en =
    let same : Element nm y ≡ braced_item (front_word cs) (past_word cs) = ap (Element nm) g ∙ sym (element_item nm r h k) ∙ (λ i. braced_item (e i) (f i)) in
    subst (λ (i : Item). IsWritten position i (piece.Item position nm s) n) same (written_element position nm y s n su en)

pub index_closes : (cs r inner : List ℕ) → IsBraced cs → r ≡ past_word cs → begins_with 125 r ≡ false → begins_with 46 r ≡ false → inner ≡ drop 1 r → closes_behind (index_len inner) inner ≡ true
index_closes cs r inner b f h k g =
    let end : is_braced_end r ≡ true = subst (λ (x : List ℕ). is_braced_end x ≡ true) (sym f) (second_true (is_name cs) (is_braced_end (past_word cs)) b.is_right) in
    let both : (begins_with 91 r && closes_behind (index_len (drop 1 r)) (drop 1 r)) ≡ true = rw (h, k) at end in
    subst (λ (x : List ℕ). closes_behind (index_len x) x ≡ true) (sym g) (second_true (begins_with 91 r) (closes_behind (index_len (drop 1 r)) (drop 1 r)) both)

pub index_right : (cs r y : List ℕ) → IsBraced cs → r ≡ past_word cs → begins_with 125 r ≡ false → begins_with 46 r ≡ false → y ≡ front_index (index_len (drop 1 r)) (drop 1 r) → IsIdentifier y ⊎ IsInteger y
index_right cs r y b f h k g =
    let same : braced_item (front_word cs) (past_word cs) ≡ Element (front_word cs) y =
    ap (braced_item (front_word cs)) (sym f) ∙ element_item (front_word cs) r h k ∙ ap (Element (front_word cs)) (sym g) in
    (subst (λ (i : Item). IsItem i b.later) same b.item).1

-- A subscript that begins with no letter is an integer.
pub number_index : (y : List ℕ) → IsIdentifier y ⊎ IsInteger y → begins is_letter y ≡ false → IsInteger y
number_index y (inr h) l = h
number_index [] (inl h) l = absurd h.0
number_index (b ∷ bs) (inl h) l = absurd (let k : is_letter b ≡ true = h.0.0 in cc)

pub hex_digits : (b c d e : ℕ) (bs : List ℕ) → is_hex (b ∷ c ∷ d ∷ e ∷ bs) ≡ true → IsTrue (is_hex_digit d) × IsTrue (is_hex_digit e)
hex_digits b c d e bs h = (second_true (b == 48 && c == 120) (is_hex_digit d) (first_true ((b == 48 && c == 120) && is_hex_digit d) (is_hex_digit e) h), second_true ((b == 48 && c == 120) && is_hex_digit d) (is_hex_digit e) h)

pub hex_right : (bs : List ℕ) → begins_with 48 bs ≡ true → Expands bs → is_hex bs ≡ true
hex_right bs h e = (hex_front bs h e.is_right).0

hex_five : (bs : List ℕ) → is_hex bs ≡ true → length (item_bytes (hex_item bs)) ≡ 5
hex_five [] h = absurd cc
hex_five (b ∷ []) h = absurd cc
hex_five (b ∷ c ∷ []) h = absurd cc
hex_five (b ∷ c ∷ d ∷ []) h = absurd cc
hex_five (b ∷ c ∷ d ∷ e ∷ bs) h = refl

pub hex_len : (bs : List ℕ) → begins_with 48 bs ≡ true → Expands bs → 5 ≡ length (item_bytes (expansion_item bs))
hex_len bs h e = let both = hex_front bs h e.is_right in sym (ap (λ i. length (item_bytes i)) both.1 ∙ hex_five bs both.0)

pub took_hex : (position : Position) (bs : List ℕ) (b : ℕ) (before : List Piece) (run : List ℕ) (after : List Piece) (run2 : List ℕ) → begins_with 48 bs ≡ true → Expands bs → after ≡ before → run2 ≡ run ++ b ∷ [] →
    ((p : Position) (later : List Piece) → item_before p (hex_item bs) later ≡ byte_before b later) → Took position (expansion_item bs) before run after run2
took_hex position bs b before run after run2 h e f g is =
    subst (λ (i : Item). Took position i before run after run2) (sym (hex_front bs h e.is_right).1) (took_byte position (hex_item bs) b before run after run2 f g (is position))

pub took_dollar : (position : Position) (b : ℕ) (bs : List ℕ) (before : List Piece) (run : List ℕ) (after : List Piece) (run2 : List ℕ) → b ≡ 36 → Expands bs →
    Took position (expansion_item bs) before run after run2 → Took position (front_item b bs) before run after run2
took_dollar position b bs before run after run2 e h t = subst (λ (i : Item). Took position i before run after run2) (sym (front_dollar b bs e h)) t

pub took_plain : (position : Position) (b : ℕ) (bs : List ℕ) (before : List Piece) (run : List ℕ) (after : List Piece) (run2 : List ℕ) → b ≢ 36 → (b == 92 && begins is_escapable bs) ≡ false →
    after ≡ before → run2 ≡ run ++ b ∷ [] → Took position (front_item b bs) before run after run2
took_plain position b bs before run after run2 ne h f g =
    subst (λ (i : Item). Took position i before run after run2) (sym (front_plain b bs ne h)) (took_byte position (Plain b) b before run after run2 f g (λ later. refl))

pub took_escape : (position : Position) (b c : ℕ) (bs : List ℕ) (before : List Piece) (run : List ℕ) (after : List Piece) (run2 : List ℕ) → (b == 92 && begins is_escapable bs) ≡ true → c ≡ first_or_zero bs →
    after ≡ before → run2 ≡ run ++ c ∷ [] → Took position (front_item b bs) before run after run2
took_escape position b c bs before run after run2 h e f g =
    subst (λ (i : Item). Took position i before run after run2) (ap Escape e ∙ sym (front_escape b bs h)) (took_byte position (Escape c) c before run after run2 f g (λ later. refl))

pub plain_len : (b : ℕ) (bs : List ℕ) → b ≢ 36 → (b == 92 && begins is_escapable bs) ≡ false → 1 ≡ length (item_bytes (front_item b bs))
plain_len b bs ne h = sym (ap (λ i. length (item_bytes i)) (front_plain b bs ne h))

pub escape_len : (b : ℕ) (bs : List ℕ) → (b == 92 && begins is_escapable bs) ≡ true → 2 ≡ length (item_bytes (front_item b bs))
escape_len b bs h = sym (ap (λ i. length (item_bytes i)) (front_escape b bs h))

-- The whole literal.
pub literal_long : (text : List ℕ) → IsString text → 1 ≤ length text
literal_long text h = omega (arith, ap length h.2)

pub literal_rest : (text : List ℕ) → ((t : List ℕ) → IsString (34 ∷ t) → Reads (text_items t) t (34 ∷ []) × AllExpand (text_items t)) → IsString text → IsRest (drop 1 text)
literal_rest text law h =
    let both = law h.1 (subst (λ (x : List ℕ). IsString x) h.2 h) in
    subst (λ (x : List ℕ). IsRest (drop 1 x)) (sym h.2) (record { reads = both.0; expand = both.1 })

pub literal_more : (position : Position) (text : List ℕ) (at n : ℕ) (before : List Piece) (run : List ℕ) (after : List Piece) (run2 rest : List ℕ) → rest ≡ drop at text →
    Stepped position at rest before run after run2 n → meaning position before run at (drop at text) ≡ pieces_of position text → meaning position after run2 (at + n) (drop (at + n) text) ≡ pieces_of position text
literal_more position text at n before run after run2 rest e h m =
    ap (λ x. meaning position after run2 (at + n) x) (sym (drop-drop n at text) ∙ ap (drop n) (sym e)) ∙ h.same ∙ ap (meaning position before run at) e ∙ m

pub rest_more : (position : Position) (text : List ℕ) (at n : ℕ) (before : List Piece) (run : List ℕ) (after : List Piece) (run2 rest : List ℕ) → rest ≡ drop at text →
    Stepped position at rest before run after run2 n → IsRest (drop (at + n) text)
rest_more position text at n before run after run2 rest e h = subst (λ (x : List ℕ). IsRest x) (ap (drop n) e ∙ drop-drop n at text) h.rest

pub literal_whole : (position : Position) (text : List ℕ) (at n : ℕ) (before : List Piece) (run : List ℕ) (after : List Piece) (run2 rest : List ℕ) → rest ≡ drop at text →
    Stepped position at rest before run after run2 n → n ≡ 0 → meaning position before run at (drop at text) ≡ pieces_of position text → after ++ run_pieces run2 ≡ pieces_of position text
literal_whole position text at n before run after run2 rest e h z m =
    let none : string_items at rest ≡ [] = h.stops z in
    let ended : string_items (at + n) (drop n rest) ≡ [] = subst (λ (j : ℕ). string_items (at + j) (drop j rest) ≡ []) (sym z) ((let same : at + 0 ≡ at = omega arith in ap (λ (a : ℕ). string_items a rest) same) ∙ none) in
    ap (λ x. after ++ x) (sym (run_alone run2)) ∙ ap (λ items. after ++ run_before run2 (pieces_from position items)) (sym ended) ∙ h.same ∙ ap (meaning position before run at) e ∙ m
