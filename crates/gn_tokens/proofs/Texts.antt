-- Strings: the functions read their items.
use Rattle.std.proofs.Common.{◌≡◌, ◌≢◌, ◌⊎◌, ℕ, zero, suc, ◌+◌, ◌-◌, ◌<◌, ◌≤◌, true, false, IsTrue, ◌==◌, List, [], ◌∷◌, ◌++◌, length, drop, Option, Some, None, refl, sym, ◌∙◌, ap, subst, inl, inr, arith, length-append, drop_at, drop-drop}
use Rattle.std.proofs.lemmas.Bool.{cases_Bool}
use Rattle.std.proofs.lemmas.Bool.Decides.{eqb_tells, nat_tests}
use Rattle.std.proofs.lemmas.List.Elements.{All-cons, All-tail, All-nil}
use Rattle.gn_tokens.specs.Bytes.{is_escapable, begins}
use Rattle.gn_tokens.specs.Text.{Item, Plain, Escape, Hex, Variable, Braced, Element, Field, item_bytes, IsExpansion, IsLone, IsItem, Reads, AllExpand, expands, is_stop, text_len, further, first_bad, expansion_item, front_item, items_from, items_skip, text_items}
use Rattle.gn_tokens.proofs.Expansions.{is_ordinary, AllOrdinary, Splits, expands_sound, expands_complete, behind_first, expansion_ordinary, dollar_first}

-- What the scans say of bytes that are passed over.

ordinary_not_stop : (b : ℕ) → is_ordinary b ≡ true → is_stop b ≡ false
ordinary_not_stop b h = grind (arith, nat_tests)

ordinary_not_backslash : (b : ℕ) → is_ordinary b ≡ true → (b == 92) ≡ false
ordinary_not_backslash b h = grind (arith, nat_tests)

ordinary_not_dollar : (b : ℕ) → is_ordinary b ≡ true → (b == 36) ≡ false
ordinary_not_dollar b h = grind (arith, nat_tests)

pub len_over : (chunk rest : List ℕ) → AllOrdinary chunk → text_len false (chunk ++ rest) ≡ length chunk + text_len false rest
len_over [] rest h = omega arith
len_over (b ∷ chunk) rest h =
    let first : is_ordinary b ≡ true = h 0 0 (omega arith) in
    let more = len_over chunk rest (All-tail (λ c. IsTrue (is_ordinary c)) b chunk h) in
    rw (ordinary_not_stop b first, ordinary_not_backslash b first) (omega (arith, more))

pub further_more : (n : ℕ) (x : Option ℕ) → further 1 (further n x) ≡ further (suc n) x
further_more n None = refl
further_more n (Some i) = ap Some (omega arith)

pub further_none : (x : Option ℕ) → further 0 x ≡ x
further_none None = refl
further_none (Some i) = ap Some (omega arith)

pub bad_over : (chunk rest : List ℕ) → AllOrdinary chunk → first_bad false (chunk ++ rest) ≡ further (length chunk) (first_bad false rest)
bad_over [] rest h = sym (further_none (first_bad false rest))
bad_over (b ∷ chunk) rest h =
    let first : is_ordinary b ≡ true = h 0 0 (omega arith) in
    let more = bad_over chunk rest (All-tail (λ c. IsTrue (is_ordinary c)) b chunk h) in
    rw (ordinary_not_stop b first, ordinary_not_dollar b first, ordinary_not_backslash b first) (ap (further 1) more ∙ further_more (length chunk) (first_bad false rest))

-- A backslash before what it does not escape.
len_no_escape : (bs : List ℕ) → begins is_escapable bs ≡ false → text_len true bs ≡ text_len false bs
len_no_escape [] h = refl
len_no_escape (b ∷ bs) h = rw h refl

pub bad_no_escape : (bs : List ℕ) → begins is_escapable bs ≡ false → first_bad true bs ≡ first_bad false bs
bad_no_escape [] h = refl
bad_no_escape (b ∷ bs) h = rw h refl

pub items_step : (b : ℕ) (bs : List ℕ) (item : Item) (later : List ℕ) → is_stop b ≡ false → front_item b bs ≡ item → 1 ≤ length (item_bytes item) → b ∷ bs ≡ item_bytes item ++ later →
    text_items (b ∷ bs) ≡ item ∷ text_items later
items_step b bs item later inside front some bytes =
    let n = length (item_bytes item) in
    let at_later : drop n (b ∷ bs) ≡ later = ap (drop n) bytes ∙ drop_at (item_bytes item) later n refl in
    let one : n ≡ suc (n - 1) = omega arith in
    let same : drop (n - 1) bs ≡ later = subst (λ x. drop x (b ∷ bs) ≡ later) one at_later in
    let skip : items_from (n - 1) bs ≡ text_items later = items_skip (n - 1) bs ∙ ap (items_from 0) same in
    rw (inside, front) (ap (λ x. item ∷ x) skip)

-- the byte of an item that is one
abbrev byte_of : Item → ℕ
byte_of (Plain b) = b
byte_of _ = 0

-- The item at the front, and what comes behind it.
pub record IsTextStep (b : ℕ) (bs : List ℕ) (item : Item) : Type 0 where
  pub later : List ℕ
  pub bytes : b ∷ bs ≡ item_bytes item ++ later
  pub is_item : IsItem item later
  pub len : text_len false (b ∷ bs) ≡ length (item_bytes item) + text_len false later
  pub items : text_items (b ∷ bs) ≡ item ∷ text_items later
  pub shorter : length later < length (b ∷ bs)
  pub bad : ((item ≡ Plain 36) × (first_bad false (b ∷ bs) ≡ Some 0)) ⊎ ((item ≢ Plain 36) × (first_bad false (b ∷ bs) ≡ further (length (item_bytes item)) (first_bad false later)))

escape_step : (c : ℕ) (cs : List ℕ) → is_escapable c ≡ true → IsTextStep 92 (c ∷ cs) (Escape c)
escape_step c cs h = record {
  later = cs;
  bytes = refl;
  is_item = h;
  len = rw h (omega arith);
  items = items_step 92 (c ∷ cs) (Escape c) cs refl (rw h refl) (omega arith) refl;
  shorter = omega arith;
  bad = inr (λ e. absurd cc, rw h (further_more 1 (first_bad false cs)));
}

backslash_step : (bs : List ℕ) → begins is_escapable bs ≡ false → IsTextStep 92 bs (Plain 92)
backslash_step bs h = record {
  later = bs;
  bytes = refl;
  is_item = (λ e. absurd (omega arith), λ e. absurd (omega arith), λ _. h, λ e. absurd (omega arith));
  len = ap suc (len_no_escape bs h) ∙ omega arith;
  items = items_step 92 bs (Plain 92) bs refl (rw h refl) (omega arith) refl;
  shorter = omega arith;
  bad = inr (λ e. absurd (let k : 92 ≡ 36 = ap byte_of e in omega arith), ap (further 1) (bad_no_escape bs h));
}

lone_step : (bs : List ℕ) → expands bs ≡ false → IsTextStep 36 bs (Plain 36)
lone_step bs h = record {
  later = bs;
  bytes = refl;
  is_item = (λ e. absurd (omega arith), λ e. absurd (omega arith), λ e. absurd (omega arith), λ _ item rest x e. (let k = expands_complete item rest bs x e in cc));
  len = omega arith;
  items = items_step 36 bs (Plain 36) bs refl (rw h refl) (omega arith) refl;
  shorter = omega arith;
  bad = inl (refl, rw h refl);
}

expansion_step_at : (bs : List ℕ) (item : Item) → expands bs ≡ true → expansion_item bs ≡ item → Splits bs item → IsTextStep 36 bs item
expansion_step_at bs item h e (later, split, is_expansion) =
    let chunk = behind_first item in
    let first : item_bytes item ≡ 36 ∷ chunk = dollar_first item later is_expansion in
    let ordinary : AllOrdinary chunk = expansion_ordinary item later is_expansion in
    let rest : bs ≡ chunk ++ later = ap (drop 1) (split ∙ ap (λ x. x ++ later) first) in
    let size : length (item_bytes item) ≡ suc (length chunk) = ap length first in
    let whole : length bs ≡ length chunk + length later = ap length rest ∙ length-append chunk later in
    let over : text_len false bs ≡ length chunk + text_len false later = ap (text_len false) rest ∙ len_over chunk later ordinary in
    let good : first_bad false bs ≡ further (length chunk) (first_bad false later) = ap (first_bad false) rest ∙ bad_over chunk later ordinary in
    record {
      later = later;
      bytes = split;
      is_item = expansion_is_item item later is_expansion;
      len = omega (arith, over, size);
      items = items_step 36 bs item later refl (rw h e) (omega (arith, size)) split;
      shorter = omega (arith, whole);
      bad = inr (λ x. subst (λ y. IsExpansion y later) x is_expansion, rw (h, size) (ap (further 1) good ∙ further_more (length chunk) (first_bad false later)));
    }
  where
    expansion_is_item : (item : Item) (later : List ℕ) → IsExpansion item later → IsItem item later
    expansion_is_item (Plain b) later x = absurd x
    expansion_is_item (Escape b) later x = absurd x
    expansion_is_item (Hex high low) later x = x
    expansion_is_item (Variable name) later x = x
    expansion_is_item (Braced name) later x = x
    expansion_is_item (Element name index) later x = x
    expansion_is_item (Field name field) later x = x

plain_step : (b : ℕ) (bs : List ℕ) → is_stop b ≡ false → (b == 92) ≡ false → (b == 36) ≡ false → IsTextStep b bs (Plain b)
plain_step b bs inside no_backslash no_dollar = record {
  later = bs;
  bytes = refl;
  is_item = (grind (arith, nat_tests), grind (arith, nat_tests), λ e. absurd (grind (arith, nat_tests)), λ e. absurd (grind (arith, nat_tests)));
  len = rw (inside, no_backslash) (omega arith);
  items = items_step b bs (Plain b) bs inside (rw (no_backslash, no_dollar) refl) (omega arith) refl;
  shorter = omega arith;
  bad = inr (λ e. absurd (let k : b ≡ 36 = ap byte_of e in grind (arith, nat_tests)), rw (inside, no_dollar, no_backslash) refl);
}

abbrev SomeStep : ℕ → List ℕ → Type 0
SomeStep b bs = (item : Item) × IsTextStep b bs item

backslash : (bs : List ℕ) → SomeStep 92 bs
backslash [] = (Plain 92, backslash_step [] refl)
backslash (c ∷ cs) = elim (cases_Bool (is_escapable c)) [
  | inl h ↦ (Escape c, escape_step c cs h)
  | inr h ↦ (Plain 92, backslash_step (c ∷ cs) h)
]

dollar : (bs : List ℕ) → SomeStep 36 bs
dollar bs = elim (cases_Bool (expands bs)) [
  | inl h ↦ (expansion_item bs, expansion_step_at bs (expansion_item bs) h refl (expands_sound bs h))
  | inr h ↦ (Plain 36, lone_step bs h)
]

pub step : (b : ℕ) (bs : List ℕ) → is_stop b ≡ false → SomeStep b bs
step b bs inside = elim (eqb_tells b 92) [
  | inl e ↦ subst (λ x. SomeStep x bs) (sym e.1) (backslash bs)
  | inr e ↦ elim (eqb_tells b 36) [
    | inl d ↦ subst (λ x. SomeStep x bs) (sym d.1) (dollar bs)
    | inr d ↦ (Plain b, plain_step b bs inside e.0 d.0)
  ]
]

-- The whole text.

-- The reading says the same as the scan for a bad `$`.
abbrev pub IsJudged : List ℕ → List ℕ → Option ℕ → Type 0
IsJudged bs rest None = AllExpand (text_items bs)
IsJudged bs rest (Some at) = (before : List Item) × (dollar : List ℕ) × (later : List Item) × Reads before bs (36 ∷ dollar) × AllExpand before × IsLone (36 ∷ dollar) × Reads later dollar rest × (length bs ≡ at + length (36 ∷ dollar))

pub record IsRead (bs rest : List ℕ) : Type 0 where
  pub reads : Reads (text_items bs) bs rest
  pub judged : IsJudged bs rest (first_bad false bs)

good_item : (item : Item) (items : List Item) → item ≢ Plain 36 → AllExpand items → AllExpand (item ∷ items)
good_item item items h more = All-cons (λ x. x ≢ Plain 36) item items h more

judged_none : (b : ℕ) (bs rest : List ℕ) (item : Item) → (s : IsTextStep b bs item) → item ≢ Plain 36 → (found : Option ℕ) → IsJudged s.later rest found → IsJudged (b ∷ bs) rest (further (length (item_bytes item)) found)
judged_none b bs rest item s good None h = subst AllExpand (sym s.items) (good_item item (text_items s.later) good h)
judged_none b bs rest item s good (Some at) (before, dollar, later, reads, fine, lone, closes, size) = (
  item ∷ before,
  dollar,
  later,
  (s.later, s.bytes, s.is_item, reads),
  good_item item before good fine,
  lone,
  closes,
  omega (arith, ap length s.bytes, length-append (item_bytes item) s.later, size),
)

judged_lone : (b : ℕ) (bs rest : List ℕ) (item : Item) → (s : IsTextStep b bs item) → item ≡ Plain 36 → IsRead s.later rest → IsJudged (b ∷ bs) rest (Some 0)
judged_lone b bs rest item s e inner =
    let bytes : b ∷ bs ≡ 36 ∷ s.later = s.bytes ∙ ap (λ x. item_bytes x ++ s.later) e in
    let is_item : IsItem (Plain 36) s.later = subst (λ x. IsItem x s.later) e s.is_item in
    ([], s.later, text_items s.later, bytes, All-nil (λ x. x ≢ Plain 36), is_item.3 refl, inner.reads, omega (arith, ap length bytes))

read_step : (b : ℕ) (bs rest : List ℕ) (item : Item) → (s : IsTextStep b bs item) → IsRead s.later rest → IsRead (b ∷ bs) rest
read_step b bs rest item s inner = record {
  reads = subst (λ x. Reads x (b ∷ bs) rest) (sym s.items) (s.later, s.bytes, s.is_item, inner.reads);
  judged = elim s.bad [
    | inl l ↦ subst (λ x. IsJudged (b ∷ bs) rest x) (sym l.1) (judged_lone b bs rest item s l.0 inner)
    | inr g ↦ subst (λ x. IsJudged (b ∷ bs) rest x) (sym g.1) (judged_none b bs rest item s g.0 (first_bad false s.later) inner.judged)
  ];
}

-- The text up to the quote or newline that ends it is its items.
pub read : (k : ℕ) (bs : List ℕ) → length bs ≤ k → IsRead bs (drop (text_len false bs) bs)
read k [] h = record { reads = refl; judged = All-nil (λ x. x ≢ Plain 36) }
read zero (b ∷ bs) h = absurd (omega arith)
read (suc k) (b ∷ bs) h = elim (cases_Bool (is_stop b)) [
  | inl stop ↦ rw stop (record { reads = rw stop refl; judged = rw stop (rw stop (All-nil (λ x. x ≢ Plain 36))) })
  | inr inside ↦
      let found = step b bs inside in
      let item = found.0 in
      let s = found.1 in
      let n = text_len false s.later in
      let inner : IsRead s.later (drop n s.later) = read k s.later (omega (arith, s.shorter)) in
      let same : drop (text_len false (b ∷ bs)) (b ∷ bs) ≡ drop n s.later =
      ap (λ x. drop x (b ∷ bs)) (s.len ∙ omega arith) ∙ sym (drop-drop n (length (item_bytes item)) (b ∷ bs))
      ∙ ap (λ x. drop n (drop (length (item_bytes item)) x)) s.bytes ∙ ap (drop n) (drop_at (item_bytes item) s.later (length (item_bytes item)) refl) in
      subst (λ x. IsRead (b ∷ bs) x) (sym same) (read_step b bs (drop n s.later) item s inner)
]
