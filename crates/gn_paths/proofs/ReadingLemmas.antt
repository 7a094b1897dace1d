-- Reading a text byte by byte finds whether it may name a path.
use Rattle.std.proofs.Common.{◌≡◌, ℕ, suc, ◌+◌, ◌-◌, ◌<◌, ◌≤◌, ◌⊎◌, inl, inr, ◌↔◌, Bool, true, false, ◌&&◌, eqb, Decides, List, [], ◌∷◌, length, take, drop, get_or, Option, None, Some, refl, sym, ap, ◌∙◌, subst, arith, lt-ltb, le-ltb, le-leb, eq-eqb, ne_eqb, eqb-true}
use Rattle.std.specs.List.{list_all, position_or_len, before_first}
use Rattle.std.specs.Str.{is_utf8}
use Rattle.std.proofs.lemmas.Bool.{cases_lt, lt-leb, and_parts, and_from, false≢true}
use Rattle.std.proofs.lemmas.List.{drop_more, drop_all}
use Rattle.std.proofs.lemmas.Bool.Decides.{same_from_decides}
use Rattle.std.proofs.lemmas.Str.{is_utf8-from_IsUtf8, IsUtf8-from_is_utf8}
use Rattle.simdutf8.specs.Steps.{IsContinuation, least_after, most_after, IsClosed, Step, first, second, later, StepsThen}
use Rattle.simdutf8.proofs.Chars.{least_is, most_is, StepsThen-IsUtf8}
use Rattle.gn_paths.specs.declared.reading.Pending.{Pending}
use Rattle.gn_paths.specs.Components.{is_slash}
use Rattle.gn_paths.specs.Normal.{is_path_byte}
use Rattle.gn_paths.specs.Reading.{is_clean, pending, between, begun, next, is_clean_from}

-- what is pending after the bytes x, y and z
data Stands (p : Pending) (x y z : ℕ) : Type 0 where
  done : p.left ≡ 0 → IsClosed x y z → Stands p x y z
  last_of_two : (p.left ≡ 1) × (p.least ≡ 0x80) × (p.most ≡ 0xBF) → (x < 0xF0) × (y < 0xE0) → (0xC2 ≤ z) × (z < 0xE0) → Stands p x y z
  last_of_three : (p.left ≡ 1) × (p.least ≡ 0x80) × (p.most ≡ 0xBF) → (x < 0xF0) × (0xE0 ≤ y) × (y < 0xF0) → IsContinuation z → Stands p x y z
  last_of_four : (p.left ≡ 1) × (p.least ≡ 0x80) × (p.most ≡ 0xBF) → (0xF0 ≤ x) × IsContinuation y → IsContinuation z → Stands p x y z
  second_of_three : (p.left ≡ 2) × (p.least ≡ least_after z) × (p.most ≡ most_after z) → (x < 0xF0) × (y < 0xE0) → (0xE0 ≤ z) × (z < 0xF0) → Stands p x y z
  third_of_four : (p.left ≡ 2) × (p.least ≡ 0x80) × (p.most ≡ 0xBF) → (x < 0xF0) × (0xF0 ≤ y) → IsContinuation z → Stands p x y z
  second_of_four : (p.left ≡ 3) × (p.least ≡ least_after z) × (p.most ≡ most_after z) → (x < 0xF0) × (y < 0xE0) → (0xF0 ≤ z) × (z ≤ 0xF4) → Stands p x y z

-- the state after one more byte is right
abbrev Goes : ℕ → ℕ → ℕ → ℕ → Option Pending → Type 0
Goes x y z b None = (bs : List ℕ) → StepsThen IsClosed x y z (b ∷ bs) → ⊥
Goes x y z b (Some q) = Step x y z b × Stands q y z b

-- where a byte of a character is still to come
further : (p : Pending) (x y z b : ℕ) → 0 < p.left → ((p.least ≤ b) × (b ≤ p.most) → Step x y z b × Stands (pending (p.left - 1) 0x80 0xBF) y z b) → (Step x y z b → (p.least ≤ b) × (b ≤ p.most)) → Goes x y z b (next p b)
further p x y z b some inside only =
    rw (ne_eqb p.left 0 (λ e. omega arith))
    (elim (cases_lt b p.least) [
      | inl l ↦ rw (lt-leb p.least b l) (λ bs h. let s = only h.0 in omega arith)
      | inr l ↦ elim (cases_lt p.most b) [
        | inl m ↦ rw (le-leb p.least b l, lt-leb b p.most m) (λ bs h. let s = only h.0 in omega arith)
        | inr m ↦ rw (le-leb p.least b l, le-leb b p.most m) (inside (l, m))
      ]
    ])

-- a byte that begins no character
no_lead : (x y z b : ℕ) → IsClosed x y z → 0x80 ≤ b → (b < 0xC2) ⊎ (0xF5 ≤ b) → (bs : List ℕ) → StepsThen IsClosed x y z (b ∷ bs) → ⊥
no_lead x y z b c l f [] h = elim h.0 [ first p q ↦ omega (arith, h.1) | second p q r ↦ omega arith | later p q r ↦ omega arith ]
no_lead x y z b c l f (d ∷ ds) h =
    elim h.0 [
      | first p q ↦ elim h.1.0 [ first u v ↦ omega arith | second u v w ↦ omega arith | later u v w ↦ omega arith ]
      | second p q r ↦ omega arith
      | later p q r ↦ omega arith
    ]

-- between two characters
lead : (x y z b : ℕ) → IsClosed x y z → Goes x y z b (begun b)
lead x y z b c =
    elim (cases_lt b 0x80) [
      | inl h ↦ rw (lt-ltb b 0x80 h) (first c (inl h), done refl (omega arith))
      | inr h ↦ elim (cases_lt b 0xC2) [
        | inl g ↦ rw (le-ltb b 0x80 h, lt-ltb b 0xC2 g) (no_lead x y z b c h (inl g))
        | inr g ↦ elim (cases_lt b 0xE0) [
          | inl f ↦ rw (le-ltb b 0x80 h, le-ltb b 0xC2 g, lt-ltb b 0xE0 f) (first c (inr (omega arith)), last_of_two (refl, refl, refl) (omega arith) (omega arith))
          | inr f ↦ elim (cases_lt b 0xF0) [
            | inl e ↦ rw (le-ltb b 0x80 h, le-ltb b 0xC2 g, le-ltb b 0xE0 f, lt-ltb b 0xF0 e) (first c (inr (omega arith)), second_of_three (refl, refl, refl) (omega arith) (omega arith))
            | inr e ↦ elim (cases_lt b 0xF5) [
              | inl d ↦ rw (le-ltb b 0x80 h, le-ltb b 0xC2 g, le-ltb b 0xE0 f, le-ltb b 0xF0 e, lt-ltb b 0xF5 d) (first c (inr (omega arith)), second_of_four (refl, refl, refl) (omega arith) (omega arith))
              | inr d ↦ rw (le-ltb b 0x80 h, le-ltb b 0xC2 g, le-ltb b 0xE0 f, le-ltb b 0xF0 e, le-ltb b 0xF5 d) (no_lead x y z b c h (inr d))
            ]
          ]
        ]
      ]
    ]

goes : (p : Pending) (x y z b : ℕ) → Stands p x y z → Goes x y z b (next p b)
goes p x y z b (done l c) = rw (eq-eqb p.left 0 l) (lead x y z b c)
goes p x y z b (last_of_two k c d) =
    let l = least_is z in
    let m = most_is z in
    further p x y z b (omega (arith, k)) (λ f. (second c (omega arith) (omega arith), done (omega arith) (omega arith)))
    (λ s. elim s [ first u v ↦ omega arith | second u v w ↦ omega arith | later u v w ↦ omega arith ])
goes p x y z b (last_of_three k c d) =
    further p x y z b (omega (arith, k)) (λ f. (later (inr (omega arith)) d (omega arith), done (omega arith) (omega arith)))
    (λ s. elim s [ first u v ↦ omega arith | second u v w ↦ omega arith | later u v w ↦ omega arith ])
goes p x y z b (last_of_four k c d) =
    further p x y z b (omega (arith, k)) (λ f. (later (inl (omega arith)) d (omega arith), done (omega arith) (omega arith)))
    (λ s. elim s [ first u v ↦ omega arith | second u v w ↦ omega arith | later u v w ↦ omega arith ])
goes p x y z b (second_of_three k c d) =
    let l = least_is z in
    let m = most_is z in
    further p x y z b (omega (arith, k)) (λ f. (second c (omega arith) (omega arith), last_of_three (omega arith, refl, refl) (omega arith) (omega arith)))
    (λ s. elim s [ first u v ↦ omega arith | second u v w ↦ omega arith | later u v w ↦ omega arith ])
goes p x y z b (third_of_four k c d) =
    further p x y z b (omega (arith, k)) (λ f. (later (inr (omega arith)) d (omega arith), last_of_four (omega arith, refl, refl) (omega arith) (omega arith)))
    (λ s. elim s [ first u v ↦ omega arith | second u v w ↦ omega arith | later u v w ↦ omega arith ])
goes p x y z b (second_of_four k c d) =
    let l = least_is z in
    let m = most_is z in
    further p x y z b (omega (arith, k)) (λ f. (second c (omega arith) (omega arith), third_of_four (omega arith, refl, refl) (omega arith) (omega arith)))
    (λ s. elim s [ first u v ↦ omega arith | second u v w ↦ omega arith | later u v w ↦ omega arith ])

-- at the end of a text nothing is pending just where no character is left open
ends_done : (p : Pending) (x y z : ℕ) → Stands p x y z → (eqb p.left 0 ≡ true) ↔ IsClosed x y z
ends_done p x y z (done l c) = (λ _. c, λ _. eq-eqb p.left 0 l)
ends_done p x y z (last_of_two k c d) = (λ e. absurd (omega (arith, eqb-true p.left 0 e)), λ c2. absurd (omega arith))
ends_done p x y z (last_of_three k c d) = (λ e. absurd (omega (arith, eqb-true p.left 0 e)), λ c2. absurd (omega arith))
ends_done p x y z (last_of_four k c d) = (λ e. absurd (omega (arith, eqb-true p.left 0 e)), λ c2. absurd (omega arith))
ends_done p x y z (second_of_three k c d) = (λ e. absurd (omega (arith, eqb-true p.left 0 e)), λ c2. absurd (omega arith))
ends_done p x y z (third_of_four k c d) = (λ e. absurd (omega (arith, eqb-true p.left 0 e)), λ c2. absurd (omega arith))
ends_done p x y z (second_of_four k c d) = (λ e. absurd (omega (arith, eqb-true p.left 0 e)), λ c2. absurd (omega arith))

-- the first piece of a text
abbrev piece : List ℕ → List ℕ
piece t = before_first is_slash t

piece_stops : (b : ℕ) (bs : List ℕ) → is_slash b ≡ true → piece (b ∷ bs) ≡ []
piece_stops b bs e = rw e refl

piece_grows : (b : ℕ) (bs : List ℕ) → is_slash b ≡ false → piece (b ∷ bs) ≡ b ∷ piece bs
piece_grows b bs e = rw e (grown (position_or_len is_slash bs))
  where
    grown : (n : ℕ) → take (1 + n) (b ∷ bs) ≡ b ∷ take n bs
    grown n = let more : 1 + n ≡ suc n = omega arith in ap (λ m. take m (b ∷ bs)) more

abbrev IsRead : ℕ → ℕ → ℕ → List ℕ → Type 0
IsRead x y z t = (list_all is_path_byte (piece t) ≡ true) × StepsThen IsClosed x y z (piece t)

-- after one byte that is no slash
read_on : (x y z b : ℕ) (bs : List ℕ) (o : Option Pending) → Goes x y z b o → ((q : Pending) → Stands q y z b → (is_clean_from (Some q) bs ≡ true) ↔ IsRead y z b bs) → (is_path_byte b && is_clean_from o bs ≡ true) ↔ ((list_all is_path_byte (b ∷ piece bs) ≡ true) × StepsThen IsClosed x y z (b ∷ piece bs))
read_on x y z b bs None g more = (λ h. absurd (false≢true (and_parts (is_path_byte b) false h).1), λ h. absurd (g (piece bs) h.1))
read_on x y z b bs (Some q) g more =
    let r = more q g.1 in (
      λ h. (let k = and_parts (is_path_byte b) (is_clean_from (Some q) bs) h in let f = r.0 k.1 in (and_from _ _ k.0 f.0, (g.0, f.1))),
      λ h. (let k = and_parts (is_path_byte b) (list_all is_path_byte (piece bs)) h.0 in and_from _ _ k.0 (r.1 (k.1, h.1.1))),
    )

reads : (t : List ℕ) (p : Pending) (x y z : ℕ) → Stands p x y z → (is_clean_from (Some p) t ≡ true) ↔ IsRead x y z t
reads [] p x y z s = let e = ends_done p x y z s in (λ h. (refl, e.0 h), λ h. e.1 h.1)
reads (b ∷ bs) p x y z s = by (is_slash b) refl (λ q k. reads bs q y z b k)
  where
    by : (c : Bool) → is_slash b ≡ c → ((q : Pending) → Stands q y z b → (is_clean_from (Some q) bs ≡ true) ↔ IsRead y z b bs) → (is_clean_from (Some p) (b ∷ bs) ≡ true) ↔ IsRead x y z (b ∷ bs)
    by true c more = let e = ends_done p x y z s in rw (piece_stops b bs c, c) (λ h. (refl, e.0 h), λ h. e.1 h.1)
    by false c more = rw (piece_grows b bs c, c) (read_on x y z b bs (next p b) (goes p x y z b s) more)

-- from the start, that is whether the first piece is clean
pub is_clean_from-start : (t : List ℕ) → is_clean_from (Some between) t ≡ is_clean (before_first is_slash t)
unfolding is_clean
is_clean_from-start t = same_from_decides _ _ front back
  where
    r : (is_clean_from (Some between) t ≡ true) ↔ IsRead 0 0 0 t
    r = reads t between 0 0 0 (done refl (omega arith))

    front : Decides (is_clean_from (Some between) t) (IsRead 0 0 0 t)
    front = r

    back : Decides (list_all is_path_byte (piece t) && is_utf8 (piece t)) (IsRead 0 0 0 t)
    back = (
      λ h. (let k = and_parts (list_all is_path_byte (piece t)) (is_utf8 (piece t)) h in (k.0, (StepsThen-IsUtf8 (piece t)).1 (IsUtf8-from_is_utf8 (piece t) k.1))),
      λ h. and_from _ _ h.0 (is_utf8-from_IsUtf8 (piece t) ((StepsThen-IsUtf8 (piece t)).0 h.1)),
    )

-- at the byte number i of a text
pub from_slash : (p : Pending) (t : List ℕ) (i : ℕ) → i < length t → is_slash (get_or t i 0) ≡ true → is_clean_from (Some p) (drop i t) ≡ eqb p.left 0
from_slash p t i l e = ap (is_clean_from (Some p)) (drop_more t i 0 l) ∙ rw e refl

pub from_end : (p : Pending) (t : List ℕ) → is_clean_from (Some p) (drop (length t) t) ≡ eqb p.left 0
from_end p t = ap (is_clean_from (Some p)) (drop_all (length t) t (omega arith))

pub from_byte : (p : Pending) (t : List ℕ) (i : ℕ) → i < length t → is_slash (get_or t i 0) ≡ false → is_clean_from (Some p) (drop i t) ≡ (is_path_byte (get_or t i 0) && is_clean_from (next p (get_or t i 0)) (drop (i + 1) t))
from_byte p t i l e = ap (is_clean_from (Some p)) (drop_more t i 0 l) ∙ rw e refl

pub from_next : (p q : Pending) (t : List ℕ) (i : ℕ) → i < length t → is_slash (get_or t i 0) ≡ false → is_path_byte (get_or t i 0) ≡ true → next p (get_or t i 0) ≡ Some q → is_clean_from (Some q) (drop (i + 1) t) ≡ is_clean_from (Some p) (drop i t)
from_next p q t i l e b n = sym (from_byte p t i l e ∙ rw (b, n) refl)

pub from_bad : (p : Pending) (t : List ℕ) (i : ℕ) → i < length t → is_slash (get_or t i 0) ≡ false → (is_path_byte (get_or t i 0) ≡ false) ⊎ (next p (get_or t i 0) ≡ None) → is_clean_from (Some p) (drop i t) ≡ false
from_bad p t i l e (inl b) = from_byte p t i l e ∙ rw b refl
from_bad p t i l e (inr n) = from_byte p t i l e ∙ rw n (by (is_path_byte (get_or t i 0)))
  where
    by : (c : Bool) → (c && false) ≡ false
    by true = refl
    by false = refl

-- no slash stands before the next byte either
pub none_before : (t : List ℕ) (i : ℕ) → ((k : ℕ) → k < i → is_slash (get_or t k 0) ≡ false) → is_slash (get_or t i 0) ≡ false → (k : ℕ) → k < i + 1 → is_slash (get_or t k 0) ≡ false
none_before t i h e k l =
    elim (cases_lt k i) [
      | inl s ↦ h k s
      | inr s ↦ let same : i ≡ k = omega arith in subst (λ m. is_slash (get_or t m 0) ≡ false) same e
    ]
