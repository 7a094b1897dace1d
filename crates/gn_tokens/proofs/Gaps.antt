-- What is passed over between tokens is white space and comments.
use Rattle.std.proofs.Common.{◌≡◌, ◌≢◌, ℕ, ◌<◌, ◌≤◌, Bool, true, false, not, ◌==◌, List, [], ◌∷◌, ◌++◌, length, take, drop, refl, sym, ap, subst, inl, inr, arith, All}
use Rattle.std.proofs.lemmas.Bool.{cases_Bool}
use Rattle.std.proofs.lemmas.Bool.Decides.{eqb_tells}
use Rattle.std.proofs.lemmas.List.Elements.{All-cons, All-nil}
use Rattle.gn_tokens.specs.Token.{IsGap, nothing, white, comment}
use Rattle.gn_tokens.specs.Bytes.{is_white}
use Rattle.gn_tokens.specs.Front.{gap_len}

-- Gaps, where the flag says that the bytes begin inside a comment.
abbrev pub GapFrom : Bool → List ℕ → Type 0
GapFrom false bs = IsGap bs
GapFrom true bs = (text : List ℕ) × (gap : List ℕ) × (bs ≡ text ++ 10 ∷ gap) × All (λ c. c ≢ 10) text × IsGap gap

begins_comment : (bs : List ℕ) → GapFrom true bs → IsGap (35 ∷ bs)
begins_comment bs (text, gap, e, plain, is_gap) = subst (λ x. IsGap (35 ∷ x)) (sym e) (comment text gap plain is_gap)

goes_on : (b : ℕ) (bs : List ℕ) → b ≢ 10 → GapFrom true bs → GapFrom true (b ∷ bs)
goes_on b bs ne (text, gap, e, plain, is_gap) = (b ∷ text, gap, ap (λ x. b ∷ x) e, All-cons (λ c. c ≢ 10) b text ne plain, is_gap)

ends_comment : (bs : List ℕ) → IsGap bs → GapFrom true (10 ∷ bs)
ends_comment bs is_gap = ([], bs, refl, All-nil (λ c. c ≢ 10), is_gap)

-- A byte inside a comment.
inside : (b : ℕ) (bs : List ℕ) → GapFrom (not (b == 10)) bs → GapFrom true (b ∷ bs)
inside b bs h = elim (eqb_tells b 10) [
  | inl e ↦ subst (λ x. GapFrom true (x ∷ bs)) (sym e.1) (ends_comment bs (subst (λ t. GapFrom (not t) bs) e.0 h))
  | inr e ↦ goes_on b bs e.1 (subst (λ t. GapFrom (not t) bs) e.0 h)
]

-- In front of what is no gap.
pub gap_front : (in_comment : Bool) (bs : List ℕ) → gap_len in_comment bs < length bs → GapFrom in_comment (take (gap_len in_comment bs) bs)
gap_front true [] h = absurd (omega arith)
gap_front false [] h = nothing
gap_front true (b ∷ bs) h = inside b (take (gap_len (not (b == 10)) bs) bs) (gap_front (not (b == 10)) bs (omega arith))
gap_front false (b ∷ bs) h = elim (eqb_tells b 35) [
  | inl e ↦ rw e.0 (subst (λ x. IsGap (x ∷ take (gap_len true bs) bs)) (sym e.1)
      (begins_comment (take (gap_len true bs) bs) (gap_front true bs (let k = rw e.0 at h in omega arith))))
  | inr e ↦ rw e.0 (elim (cases_Bool (is_white b)) [
    | inl w ↦ rw w (white b (take (gap_len false bs) bs) w (gap_front false bs (let k = rw (e.0, w) at h in omega arith)))
    | inr w ↦ rw w nothing
  ])
]

-- Up to the end, with a newline behind.
pub gap_whole : (in_comment : Bool) (bs : List ℕ) → length bs ≤ gap_len in_comment bs → GapFrom in_comment (bs ++ 10 ∷ [])
gap_whole true [] h = ends_comment [] nothing
gap_whole false [] h = white 10 [] refl nothing
gap_whole true (b ∷ bs) h = inside b (bs ++ 10 ∷ []) (gap_whole (not (b == 10)) bs (omega arith))
gap_whole false (b ∷ bs) h = elim (eqb_tells b 35) [
  | inl e ↦ subst (λ x. IsGap (x ∷ (bs ++ 10 ∷ []))) (sym e.1)
      (begins_comment (bs ++ 10 ∷ []) (gap_whole true bs (let k = rw e.0 at h in omega arith)))
  | inr e ↦ elim (cases_Bool (is_white b)) [
    | inl w ↦ white b (bs ++ 10 ∷ []) w (gap_whole false bs (let k = rw (e.0, w) at h in omega arith))
    | inr w ↦ absurd (let k = rw (e.0, w) at h in omega arith)
  ]
]

-- What stands behind the gap is neither white space nor the beginning of a comment.
pub gap_stops : (in_comment : Bool) (bs : List ℕ) (c : ℕ) (rest : List ℕ) → drop (gap_len in_comment bs) bs ≡ c ∷ rest → (is_white c ≡ false) × (c ≢ 35)
gap_stops true [] c rest h = absurd cc
gap_stops false [] c rest h = absurd cc
gap_stops true (b ∷ bs) c rest h = gap_stops (not (b == 10)) bs c rest h
gap_stops false (b ∷ bs) c rest h = elim (eqb_tells b 35) [
  | inl e ↦ gap_stops true bs c rest (rw e.0 at h)
  | inr e ↦ elim (cases_Bool (is_white b)) [
    | inl w ↦ gap_stops false bs c rest (rw (e.0, w) at h)
    | inr w ↦ let k : b ∷ bs ≡ c ∷ rest = rw (e.0, w) at h in
        let same : b ≡ c = cc in
        (subst (λ x. is_white x ≡ false) same w, subst (λ x. x ≢ 35) same e.1)
  ]
]
