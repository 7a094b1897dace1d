-- Texts that are cut at a separator.
use Rattle.std.proofs.Common.{◌≡◌, ℕ, zero, suc, ◌+◌, ◌-◌, ◌<◌, ◌≤◌, Bool, true, false, cond, nat_eq, List, [], ◌∷◌, ◌++◌, length, take, drop, Option, Some, None, option_map, refl, sym, ap, ◌∙◌, subst, arith, append_assoc, length-append, true≢false}
use Rattle.std.specs.List.{starts_with, flat_map}
use Rattle.std.proofs.lemmas.List.{append-nil, take_at, take_rest, length-drop, drop-drop}
use Rattle.std.proofs.lemmas.Slice.Eq.{starts_is}
use Rattle.std.proofs.lemmas.Bool.Decides.{Decides-eqb}
use Rattle.memchr.specs.Find.{IsFirst, FindsNeedle, OccursAt}
use Rattle.memchr.proofs.lemmas.MatchLemmas.{OccursAt-split, OccursAt-from_part}
use Rattle.gn_calls_text.specs.Pieces.{first_where, first_place, cut, cut_at, joined, replaced}

-- the first place where something holds is the first where a test passes that says so
first_is : (P : ℕ → Type 0) (test : List ℕ → Bool) (text : List ℕ) → ((k : ℕ) → k ≤ length text → P k → test (drop k text) ≡ true) → ((k : ℕ) → k ≤ length text → test (drop k text) ≡ true → P k) → (r : Option ℕ) → IsFirst P 0 (length text + 1) r → r ≡ first_where test text
first_is P test [] to from None h = by (test []) refl
  where
    by : (v : Bool) → test [] ≡ v → ◌≡◌ {A = Option ℕ} None (cond v (Some 0) None)
    by true e = absurd (h 0 (omega arith) (omega arith) (from 0 (omega arith) e))
    by false e = refl
first_is P test [] to from (Some k) h =
    let low = h.0.high in
    let is : k ≡ 0 = omega arith in
    ap (λ (n : ℕ). Some n) is ∙ ap (λ (v : Bool). cond {A = Option ℕ} v (Some 0) None) (sym (to 0 (omega arith) (subst P is h.1)))
first_is P test (b ∷ more) to from r h =
    by (first_is (λ k. P (suc k)) test more (λ k l p. to (suc k) (omega arith) p) (λ k l e. from (suc k) (omega arith) e)) (test (b ∷ more)) refl r h
  where
    by : ((q : Option ℕ) → IsFirst (λ k. P (suc k)) 0 (length more + 1) q → q ≡ first_where test more) → (v : Bool) → test (b ∷ more) ≡ v → (q : Option ℕ) → IsFirst P 0 (length (b ∷ more) + 1) q → q ≡ cond v (Some 0) (option_map suc (first_where test more))
    by later true e None g = absurd (g 0 (omega arith) (omega arith) (from 0 (omega arith) e))
    by later true e (Some zero) g = refl
    by later true e (Some (suc k)) g = absurd (g.0.before 0 (omega arith) (omega arith) (from 0 (omega arith) e))
    by later false e None g = ap (option_map suc) (later None (λ k low high. g (suc k) (omega arith) (omega arith)))
    by later false e (Some zero) g = absurd (true≢false (sym (to 0 (omega arith) g.1) ∙ e))
    by later false e (Some (suc k)) g =
        let within = g.0.high in
        ap (option_map suc) (later (Some k) (record { low = omega arith; high = omega arith; before = λ j low high. g.0.before (suc j) (omega arith) (omega arith) }, g.1))

module _ (text part : List ℕ) where
  stands : (k : ℕ) → k ≤ length text → OccursAt text part k → starts_with nat_eq (drop k text) part ≡ true
  stands k l h = (starts_is Decides-eqb (drop k text) part (starts_with nat_eq (drop k text) part) refl).1 (drop (k + length part) text) (OccursAt-split text part k h)

  occurs : (k : ℕ) → k ≤ length text → starts_with nat_eq (drop k text) part ≡ true → OccursAt text part k
  occurs k l h =
      let rest = drop (length part) (drop k text) in
      let is : drop k text ≡ part ++ rest = (starts_is Decides-eqb (drop k text) part (starts_with nat_eq (drop k text) part) refl).0 h in
      let long = ap length is ∙ length-append part rest in
      OccursAt-from_part text part k (omega (arith, length-drop k text)) (ap (take (length part)) is ∙ take_at part rest (length part) refl)

  pub place_found : (r : Option ℕ) → FindsNeedle text part 0 r → first_place part text ≡ r
  unfolding first_place
  place_found r h = sym (first_is (OccursAt text part) (λ t. starts_with nat_eq t part) text stands occurs r h)

-- what a text is cut into, one place further on
pub cut_more : (left place : ℕ) (separator text piece : List ℕ) → 0 < left → FindsNeedle text separator 0 (Some place) → piece ≡ take place text → cut left separator text ≡ piece ∷ cut (left - 1) separator (drop (place + length separator) text)
unfolding cut
cut_more zero place separator text piece some found is = absurd (omega arith)
cut_more (suc n) place separator text piece some found is =
    let one : n ≡ suc n - 1 = omega arith in
    ap (cut_at (cut n separator) separator text) (place_found text separator (Some place) found)
    ∙ (λ i. sym is i ∷ cut (one i) separator (drop (place + length separator) text))

pub cut_none : (left : ℕ) (separator text : List ℕ) → FindsNeedle text separator 0 None → cut left separator text ≡ text ∷ []
unfolding cut
cut_none zero separator text found = refl
cut_none (suc n) separator text found = ap (cut_at (cut n separator) separator text) (place_found text separator None found)

pub cut_over : (left : ℕ) (separator text : List ℕ) → left ≤ 0 → cut left separator text ≡ text ∷ []
unfolding cut
cut_over zero separator text over = refl
cut_over (suc n) separator text over = absurd (omega arith)

-- there is always a piece
pub join_piece : (new t : List ℕ) (left : ℕ) (separator text : List ℕ) → joined new (t ∷ cut left separator text) ≡ (t ++ new) ++ joined new (cut left separator text)
unfolding cut
join_piece new t zero separator text = ap (λ r. t ++ r) (append_assoc new text []) ∙ sym (append_assoc t new (text ++ []))
join_piece new t (suc n) separator text = by (first_place separator text)
  where
    by : (p : Option ℕ) → joined new (t ∷ cut_at (cut n separator) separator text p) ≡ (t ++ new) ++ joined new (cut_at (cut n separator) separator text p)
    by None = ap (λ r. t ++ r) (append_assoc new text []) ∙ sym (append_assoc t new (text ++ []))
    by (Some k) =
        let first = take k text in
        let rest = flat_map (λ y. new ++ y) (cut n separator (drop (k + length separator) text)) in
        ap (λ r. t ++ r) (append_assoc new first rest) ∙ sym (append_assoc t new (first ++ rest))

pub replaced_more : (left place : ℕ) (old new text piece : List ℕ) → 0 < left → FindsNeedle text old 0 (Some place) → piece ≡ take place text → replaced left old new text ≡ (piece ++ new) ++ replaced (left - 1) old new (drop (place + length old) text)
replaced_more left place old new text piece some found is =
    ap (joined new) (cut_more left place old text piece some found is) ∙ join_piece new piece (left - 1) old (drop (place + length old) text)

pub replaced_none : (left : ℕ) (old new text : List ℕ) → FindsNeedle text old 0 None → replaced left old new text ≡ text
replaced_none left old new text found = ap (joined new) (cut_none left old text found) ∙ append-nil text

pub replaced_over : (left : ℕ) (old new text : List ℕ) → left ≤ 0 → replaced left old new text ≡ text
replaced_over left old new text over = ap (joined new) (cut_over left old text over) ∙ append-nil text

-- what is left behind a separator, as the code has it
pub rest_is : (rest separator needle behind : List ℕ) (place : ℕ) → needle ≡ separator → behind ≡ drop place rest → take (length behind - length needle) (drop (length needle) behind) ≡ drop (place + length separator) rest
rest_is rest separator needle behind place same is =
    take_rest behind (length needle) ∙ (λ i. drop (length (same i)) (is i)) ∙ drop-drop (length separator) place rest
