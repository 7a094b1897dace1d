-- Integers: the function finds the runs of digits that are one.
use Rattle.std.proofs.Common.{◌≡◌, ◌≢◌, ℕ, zero, suc, ◌-◌, ◌≤◌, ◌^◌, Bool, true, false, not, ◌&&◌, IsTrue, ◌==◌, nat_le, if◌then◌else◌, List, [], ◌∷◌, ◌++◌, length, take, drop, Option, Some, None, refl, sym, ◌∙◌, ap, subst, inl, inr, arith, All, length-take-le, take-append-drop, take_at, drop_at}
use Rattle.std.specs.List.{prefix_len}
use Rattle.std.proofs.lemmas.Bool.{cases_Bool, not-true}
use Rattle.std.proofs.lemmas.Bool.Decides.{eqb_tells, leb_tells, nat_tests}
use Rattle.std.proofs.lemmas.List.Sums.{prefix_len-le-length}
use Rattle.gn_basics.proofs.Tests.{first_true, second_true}
use Rattle.gn_tokens.specs.Bytes.{is_letter, is_digit, begins}
use Rattle.gn_tokens.specs.Number.{decimal, IsDigits, IsNumeral, IsInteger, IsDigitRun, IsBadRun, begins_run, run_len, is_magnitude, is_integer, integer_len}
use Rattle.gn_tokens.proofs.Words.{or_true, all_in_front, passing, all_pass, behind_fails}

digit_no_minus : (b : ℕ) → is_digit b ≡ true → (b == 45) ≡ false
digit_no_minus b h = grind (arith, nat_tests)

pub digit_no_letter : (b : ℕ) → is_digit b ≡ true → is_letter b ≡ false
digit_no_letter b h = grind (arith, nat_tests)

-- the first of digits is one
pub first_digit : (d : ℕ) (ds : List ℕ) → IsDigits (d ∷ ds) → is_digit d ≡ true
first_digit d ds h = h 0 0 (omega arith)

digits_begin : (ds rest : List ℕ) → IsDigits ds → begins is_digit (ds ++ rest) ≡ true
digits_begin [] rest h = absurd h
digits_begin (d ∷ ds) rest h = first_digit d ds h

digits_all : (ds : List ℕ) → IsDigits ds → All (λ c. IsTrue (is_digit c)) ds
digits_all [] h = absurd h
digits_all (d ∷ ds) h = h

-- A run, behind which no digit comes.
pub run_here : (w rest : List ℕ) → IsDigitRun w → begins is_digit rest ≡ false → (begins_run (w ++ rest) ≡ true) × (run_len (w ++ rest) ≡ length w)
run_here [] rest (inl h) stop = absurd h
run_here [] rest (inr (ds, e, h)) stop = absurd cc
run_here (b ∷ w) rest (inl h) stop =
    let d = first_digit b w h in
    (rw d refl, rw (digit_no_minus b d) (all_in_front is_digit (b ∷ w) rest h stop))
run_here (b ∷ w) rest (inr (ds, e, h)) stop =
    let first : b ≡ 45 = cc in
    let same : w ≡ ds = cc in
    let digits : IsDigits w = subst IsDigits (sym same) h in
    let begin : begins is_digit (w ++ rest) ≡ true = digits_begin w rest digits in (
      subst (λ x. begins_run (x ∷ (w ++ rest)) ≡ true) (sym first) begin,
      subst (λ x. run_len (x ∷ (w ++ rest)) ≡ suc (length w)) (sym first) (ap suc (all_in_front is_digit w rest (digits_all w digits) stop)),
    )

-- A run is no more than the one at the front.
pub run_at_most : (m : ℕ) (bs : List ℕ) → m ≤ length bs → IsDigitRun (take m bs) → (begins_run bs ≡ true) × (1 ≤ m) × (m ≤ run_len bs)
run_at_most zero bs le (inl h) = absurd h
run_at_most zero bs le (inr (ds, e, h)) = absurd cc
run_at_most (suc m) [] le h = absurd (omega arith)
run_at_most (suc m) (b ∷ bs) le (inl h) =
    let d = first_digit b (take m bs) h in
    (rw d refl, omega arith, rw (digit_no_minus b d) (passing is_digit (suc m) (b ∷ bs) le h))
run_at_most (suc m) (b ∷ bs) le (inr (ds, e, h)) =
    let first : b ≡ 45 = cc in
    let same : take m bs ≡ ds = cc in
    let digits : IsDigits (take m bs) = subst IsDigits (sym same) h in
    let begin : begins is_digit bs ≡ true = subst (λ x. begins is_digit x ≡ true) (take-append-drop m bs) (digits_begin (take m bs) (drop m bs) digits) in
    let fits : m ≤ prefix_len is_digit bs = passing is_digit m bs (omega arith) (digits_all (take m bs) digits) in
    (subst (λ x. begins_run (x ∷ bs) ≡ true) (sym first) begin, omega arith, subst (λ x. suc m ≤ run_len (x ∷ bs)) (sym first) (omega (arith, fits)))

digits_front : (bs : List ℕ) → begins is_digit bs ≡ true → IsDigits (take (prefix_len is_digit bs) bs)
digits_front [] h = absurd cc
digits_front (b ∷ bs) h =
    let e : prefix_len is_digit (b ∷ bs) ≡ suc (prefix_len is_digit bs) = rw h (omega arith) in
    rw e (subst (λ n. All (λ c. IsTrue (is_digit c)) (take n (b ∷ bs))) e (all_pass is_digit (b ∷ bs)))

-- The run at the front is one, and behind it no digit comes.
pub front_is_run : (bs : List ℕ) → begins_run bs ≡ true → IsDigitRun (take (run_len bs) bs)
front_is_run [] h = absurd cc
front_is_run (b ∷ bs) h = elim (eqb_tells b 45) [
  | inl e ↦
      let begin : begins is_digit bs ≡ true = subst (λ x. begins_run (x ∷ bs) ≡ true) e.1 h in
      subst (λ x. IsDigitRun (take (run_len (x ∷ bs)) (x ∷ bs))) (sym e.1) (inr (take (prefix_len is_digit bs) bs, refl, digits_front bs begin))
  | inr e ↦ rw e.0 (inl (digits_front (b ∷ bs) (elim (or_true (is_digit b) ((b == 45) && begins is_digit bs) h) [
    | inl d ↦ d
    | inr d ↦ absurd (let k = e.0 in let l = first_true (b == 45) (begins is_digit bs) d.1 in cc)
  ])))
]

pub behind_run : (bs : List ℕ) → begins is_digit (drop (run_len bs) bs) ≡ false
behind_run [] = refl
behind_run (b ∷ bs) = elim (cases_Bool (b == 45)) [
  | inl e ↦ rw e (behind_fails is_digit bs)
  | inr e ↦ rw e (behind_fails is_digit (b ∷ bs))
]

pub run_within : (bs : List ℕ) → run_len bs ≤ length bs
run_within [] = omega arith
run_within (b ∷ bs) = elim (cases_Bool (b == 45)) [
  | inl e ↦ rw e (omega (arith, prefix_len-le-length is_digit bs))
  | inr e ↦ rw e (prefix_len-le-length is_digit (b ∷ bs))
]

-- the greatest number that a `-` may stand before or not
abbrev limit : Bool → ℕ
limit is_negative = if is_negative then 2 ^ 63 else 2 ^ 63 - 1

one_zero : (d : ℕ) (ds : List ℕ) → d ≡ 48 → ds ≡ [] → decimal (d ∷ ds) ≡ 0
one_zero d ds e none = ap (λ x. decimal (x ∷ ds)) e ∙ ap (λ x. decimal (48 ∷ x)) none

no_more : (d : ℕ) (ds : List ℕ) → nat_le (length (d ∷ ds)) 1 ≡ true → ds ≡ []
no_more d [] h = refl
no_more d (x ∷ ds) h = elim (leb_tells (length (d ∷ x ∷ ds)) 1) [
  | inl e ↦ absurd (let k = e.1 in omega arith)
  | inr e ↦ absurd (let k = e.0 in cc)
]

magnitude_sound : (is_negative : Bool) (d : ℕ) (ds : List ℕ) → IsDigits (d ∷ ds) → is_magnitude is_negative (d ∷ ds) ≡ true →
    IsNumeral (d ∷ ds) × (decimal (d ∷ ds) ≤ limit is_negative) × (is_negative ≡ true → (d ∷ ds) ≢ 48 ∷ [])
magnitude_sound is_negative d ds digits h = elim (eqb_tells d 48) [
  | inl e ↦
      let both : (nat_le (length (d ∷ ds)) 1 && not is_negative) ≡ true = rw e.0 at h in
      let none : ds ≡ [] = no_more d ds (first_true (nat_le (length (d ∷ ds)) 1) (not is_negative) both) in
      let plain : is_negative ≡ false = not-true is_negative (second_true (nat_le (length (d ∷ ds)) 1) (not is_negative) both) in
      ((digits, λ _. none), omega (arith, one_zero d ds e.1 none), λ n. absurd cc)
  | inr e ↦
      let fits : nat_le (decimal (d ∷ ds)) (limit is_negative) ≡ true = rw e.0 at h in (
        (digits, λ z. absurd (e.1 z)),
        elim (leb_tells (decimal (d ∷ ds)) (limit is_negative)) [
          | inl l ↦ l.1
          | inr l ↦ absurd (let k = l.0 in cc)
        ],
        λ _ z. e.1 cc,
      )
]

magnitude_complete : (is_negative : Bool) (d : ℕ) (ds : List ℕ) → IsNumeral (d ∷ ds) → decimal (d ∷ ds) ≤ limit is_negative → (is_negative ≡ true → (d ∷ ds) ≢ 48 ∷ []) → is_magnitude is_negative (d ∷ ds) ≡ true
magnitude_complete is_negative d ds num le ne = elim (eqb_tells d 48) [
  | inl e ↦ rw e.0 (
      let none : ds ≡ [] = num.1 e.1 in
      elim (cases_Bool is_negative) [
        | inl n ↦ absurd (ne n (let k = e.1 in cc))
        | inr n ↦ rw (none, n) refl
      ])
  | inr e ↦ rw e.0 (elim (leb_tells (decimal (d ∷ ds)) (limit is_negative)) [
    | inl l ↦ l.0
    | inr l ↦ absurd (let k = l.1 in omega arith)
  ])
]

-- A run that the function takes is an integer, and the other way round.
pub integer_sound : (w : List ℕ) → IsDigitRun w → is_integer w ≡ true → IsInteger w
integer_sound [] r h = absurd cc
integer_sound (b ∷ w) (inl digits) h =
    let plain : is_magnitude false (b ∷ w) ≡ true = rw (digit_no_minus b (first_digit b w digits)) at h in
    let m = magnitude_sound false b w digits plain in
    inl (m.0, omega (arith, m.1))
integer_sound (b ∷ w) (inr ([], e, digits)) h = absurd digits
integer_sound (b ∷ w) (inr (d ∷ ds, e, digits)) h =
    let whole : is_integer (45 ∷ d ∷ ds) ≡ true = ap is_integer (sym e) ∙ h in
    let m = magnitude_sound true d ds digits whole in
    inr (d ∷ ds, e, m.0, m.2 refl, m.1)

pub integer_complete : (w : List ℕ) → IsInteger w → is_integer w ≡ true
integer_complete [] (inl (num, lt)) = absurd num
integer_complete (b ∷ w) (inl (num, lt)) =
    rw (digit_no_minus b (first_digit b w num.0)) (magnitude_complete false b w num (omega (arith, lt)) (λ n. absurd cc))
integer_complete w (inr ([], e, num, ne, le)) = absurd num
integer_complete w (inr (d ∷ ds, e, num, ne, le)) = ap is_integer e ∙ magnitude_complete true d ds num le (λ _. ne)

pub integer_is_run : (w : List ℕ) → IsInteger w → IsDigitRun w
integer_is_run [] (inl (num, lt)) = absurd num
integer_is_run (b ∷ w) (inl (num, lt)) = inl num.0
integer_is_run w (inr ([], e, num, ne, le)) = absurd num
integer_is_run w (inr (d ∷ ds, e, num, ne, le)) = inr (d ∷ ds, e, num.0)

-- an integer of this length stands at the front
abbrev pub IsIntegerHere : List ℕ → Option ℕ → Type 0
IsIntegerHere bs None = (begins_run bs ≡ true) → IsBadRun bs (run_len bs)
IsIntegerHere bs (Some n) = (n ≡ run_len bs) × (begins_run bs ≡ true) × IsInteger (take n bs) × (begins is_letter (drop n bs) ≡ false)

pub integer_len_is : (bs : List ℕ) → IsIntegerHere bs (integer_len bs)
integer_len_is bs = elim (cases_Bool (begins_run bs)) [
  | inr r ↦ rw r (λ h. absurd cc)
  | inl r ↦ elim (cases_Bool (is_integer (take (run_len bs) bs))) [
    | inr i ↦ rw (r, i) (λ _. record { within = run_within bs; run = front_is_run bs r; whole = behind_run bs; bad = inl (λ w. (let k = integer_complete (take (run_len bs) bs) w in cc)) })
    | inl i ↦ elim (cases_Bool (begins is_letter (drop (run_len bs) bs))) [
      | inl l ↦ rw (r, i, l) (λ _. record { within = run_within bs; run = front_is_run bs r; whole = behind_run bs; bad = inr l })
      | inr l ↦ rw (r, i, l) (refl, r, integer_sound (take (run_len bs) bs) (front_is_run bs r) i, l)
    ]
  ]
]

-- An integer stands at the front, where neither a digit nor a letter comes behind it.
pub integer_here : (w rest : List ℕ) → IsInteger w → begins is_digit rest ≡ false → begins is_letter rest ≡ false → integer_len (w ++ rest) ≡ Some (length w)
integer_here w rest h no_digit no_letter =
    let here = run_here w rest (integer_is_run w h) no_digit in
    let front : take (length w) (w ++ rest) ≡ w = take_at w rest (length w) refl in
    let back : drop (length w) (w ++ rest) ≡ rest = drop_at w rest (length w) refl in
    rw (here.0, here.1, front, back, integer_complete w h, no_letter) refl

-- A bad run is at the front, and the function sees it.
pub bad_run_here : (bs : List ℕ) (len : ℕ) → IsBadRun bs len → (begins_run bs ≡ true) × (integer_len bs ≡ None)
bad_run_here bs len bad =
    let whole : take len bs ++ drop len bs ≡ bs = take-append-drop len bs in
    let here = run_here (take len bs) (drop len bs) bad.run bad.whole in
    let begin : begins_run bs ≡ true = subst (λ x. begins_run x ≡ true) whole here.0 in
    let size : run_len bs ≡ len = ap run_len (sym whole) ∙ here.1 ∙ length-take-le len bs bad.within in (
      begin,
      rw (begin, size) (elim bad.bad [
        | inl never ↦ elim (cases_Bool (is_integer (take len bs))) [
          | inl i ↦ absurd (never (integer_sound (take len bs) bad.run i))
          | inr i ↦ rw i refl
        ]
        | inr letter ↦ rw letter (elim (cases_Bool (is_integer (take len bs))) [
          | inl i ↦ rw i refl
          | inr i ↦ rw i refl
        ])
      ]),
    )
