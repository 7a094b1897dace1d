-- A text matches where it is made of pieces for which the parts of the pattern stand.
use Rattle.std.proofs.Common.{◌≡◌, ◌↔◌, ◌⊎◌, ℕ, Bool, true, false, ◌||◌, ◌&&◌, ◌==◌, List, [], ◌∷◌, ◌++◌, refl, sym, ap, ◌∙◌, subst, inl, inr, ⊎_elim, append_assoc, true≢false, eq-eqb}
use Rattle.std.specs.List.{concat}
use Rattle.std.proofs.lemmas.List.{append-nil}
use Rattle.std.proofs.lemmas.Bool.{eqb-true, and_parts, or_left, or_right}
use Rattle.gn_calls_text.specs.declared.patterns.Part.{Part}
use Rattle.gn_calls_text.specs.declared.patterns.Part.TheVariants.{Any, Boundary, Byte}
use Rattle.gn_calls_text.specs.Patterns.{parts_of, matches_parts, matches, some_rest}
use Rattle.gn_calls_text.specs.Laws.{StandFor, IsMatch}

-- whether nothing stands before a text
abbrev is_first : List ℕ → Bool
is_first [] = true
is_first (b ∷ more) = false

not_first : (before : List ℕ) (c : ℕ) (more : List ℕ) → is_first (before ++ c ∷ more) ≡ false
not_first [] c more = refl
not_first (b ∷ before) c more = refl

-- the pieces of a text behind these bytes
abbrev Pieces : List Part → List ℕ → List ℕ → Type 0
Pieces parts before text = (pieces : List (List ℕ)) × ((concat pieces ≡ text) × StandFor parts before pieces)

either : {P : Type 0} (a b : Bool) → (a || b) ≡ true → (a ≡ true → P) → (b ≡ true → P) → P
either true b h f g = f refl
either false b h f g = g h

-- a test that passes behind some bytes
found_rest : {P : Type 0} (test : Bool → List ℕ → Bool) (before text : List ℕ) → some_rest test (is_first before) text ≡ true → ((piece rest : List ℕ) → piece ++ rest ≡ text → test (is_first (before ++ piece)) rest ≡ true → P) → P
found_rest test before [] h k = k [] [] refl (ap (λ t. test (is_first t) []) (append-nil before) ∙ h)
found_rest test before (c ∷ more) h k =
    either (test (is_first before) (c ∷ more)) (some_rest test false more) h
    (λ here. k [] (c ∷ more) refl (ap (λ t. test (is_first t) (c ∷ more)) (append-nil before) ∙ here))
    (λ later. found_rest test (before ++ c ∷ []) more (ap (λ v. some_rest test v more) (not_first before c []) ∙ later)
    (λ piece rest is passes. k (c ∷ piece) rest (ap (λ t. c ∷ t) is) (ap (λ t. test (is_first t) rest) (sym (append_assoc before (c ∷ []) piece)) ∙ passes)))

rest_found : (test : Bool → List ℕ → Bool) (before piece rest : List ℕ) → test (is_first (before ++ piece)) rest ≡ true → some_rest test (is_first before) (piece ++ rest) ≡ true
rest_found test before [] [] h = ap (λ t. test (is_first t) []) (sym (append-nil before)) ∙ h
rest_found test before [] (c ∷ more) h = or_left _ (some_rest test false more) (ap (λ t. test (is_first t) (c ∷ more)) (sym (append-nil before)) ∙ h)
rest_found test before (c ∷ piece) rest h =
    or_right (test (is_first before) (c ∷ (piece ++ rest))) _
    (ap (λ v. some_rest test v (piece ++ rest)) (sym (not_first before c [])) ∙ rest_found test (before ++ c ∷ []) piece rest (ap (λ t. test (is_first t) rest) (append_assoc before (c ∷ []) piece) ∙ h))

first_is_empty : (before : List ℕ) → is_first before ≡ true → before ≡ []
first_is_empty [] h = refl
first_is_empty (b ∷ more) h = absurd (true≢false (sym h))

to_pieces : (parts : List Part) (before text : List ℕ) → matches_parts parts (is_first before) text ≡ true → Pieces parts before text
to_pieces [] before [] h = ([], (refl, tt))
to_pieces [] before (c ∷ more) h = absurd (true≢false (sym h))
to_pieces (Any ∷ parts) before text h =
    found_rest (matches_parts parts) before text h
    (λ piece rest is passes. let p = to_pieces parts (before ++ piece) rest passes in (piece ∷ p.0, (ap (λ t. piece ++ t) p.1.0 ∙ is, (tt, p.1.1))))
to_pieces (Byte b ∷ parts) before [] h = absurd (true≢false (sym h))
to_pieces (Byte b ∷ parts) before (c ∷ more) h =
    let g = and_parts (c == b) (matches_parts parts false more) h in
    let p = to_pieces parts (before ++ c ∷ []) more (ap (λ v. matches_parts parts v more) (not_first before c []) ∙ g.1) in
    ((c ∷ []) ∷ p.0, (ap (λ t. c ∷ t) p.1.0, (ap (λ n. n ∷ []) (eqb-true c b g.0), p.1.1)))
to_pieces (Boundary ∷ parts) before [] h =
    let p = to_pieces parts (before ++ []) [] (ap (λ t. matches_parts parts (is_first t) []) (append-nil before) ∙ h) in
    ([] ∷ p.0, (p.1.0, (inr (refl, inr p.1.0), p.1.1)))
to_pieces (Boundary ∷ parts) before (c ∷ more) h =
    either (is_first before && matches_parts parts (is_first before) (c ∷ more)) (c == 47 && matches_parts parts false more) h
    (λ here. let g = and_parts (is_first before) (matches_parts parts (is_first before) (c ∷ more)) here in
    let p = to_pieces parts (before ++ []) (c ∷ more) (ap (λ t. matches_parts parts (is_first t) (c ∷ more)) (append-nil before) ∙ g.1) in
    ([] ∷ p.0, (p.1.0, (inr (refl, inl (first_is_empty before g.0)), p.1.1))))
    (λ slash. let g = and_parts (c == 47) (matches_parts parts false more) slash in
    let p = to_pieces parts (before ++ c ∷ []) more (ap (λ v. matches_parts parts v more) (not_first before c []) ∙ g.1) in
    ((c ∷ []) ∷ p.0, (ap (λ t. c ∷ t) p.1.0, (inl (ap (λ n. n ∷ []) (eqb-true c 47 g.0)), p.1.1))))

-- the parts behind a boundary of no bytes
behind_nothing : (parts : List Part) (before text : List ℕ) → ((before ≡ []) ⊎ (text ≡ [])) → matches_parts parts (is_first before) text ≡ true → matches_parts (Boundary ∷ parts) (is_first before) text ≡ true
behind_nothing parts before [] side h = h
behind_nothing parts [] (c ∷ more) side h = or_left _ (c == 47 && matches_parts parts false more) h
behind_nothing parts (b ∷ before) (c ∷ more) side h = ⊎_elim (λ e. absurd cc) (λ e. absurd cc) side

from_pieces : (parts : List Part) (before : List ℕ) (pieces : List (List ℕ)) → StandFor parts before pieces → matches_parts parts (is_first before) (concat pieces) ≡ true
from_pieces [] before [] s = refl
from_pieces [] before (piece ∷ pieces) s = absurd s
from_pieces (part ∷ parts) before [] s = absurd s
from_pieces (Any ∷ parts) before (piece ∷ pieces) s =
    rest_found (matches_parts parts) before piece (concat pieces) (from_pieces parts (before ++ piece) pieces s.1)
from_pieces (Byte b ∷ parts) before (piece ∷ pieces) s =
    let rest = from_pieces parts (before ++ piece) pieces s.1 in
    ap (λ t. matches_parts (Byte b ∷ parts) (is_first before) (t ++ concat pieces)) s.0
    ∙ ap (λ v. v && matches_parts parts false (concat pieces)) (eq-eqb b b refl)
    ∙ ap (λ v. matches_parts parts v (concat pieces)) (sym (ap (λ t. is_first (before ++ t)) s.0 ∙ not_first before b [])) ∙ rest
from_pieces (Boundary ∷ parts) before (piece ∷ pieces) s =
    let rest = from_pieces parts (before ++ piece) pieces s.1 in
    ⊎_elim
    (λ slash. ap (λ t. matches_parts (Boundary ∷ parts) (is_first before) (t ++ concat pieces)) slash
    ∙ or_right (is_first before && matches_parts parts (is_first before) (47 ∷ concat pieces)) _
    (ap (λ v. matches_parts parts v (concat pieces)) (sym (ap (λ t. is_first (before ++ t)) slash ∙ not_first before 47 [])) ∙ rest))
    (λ none. ap (λ t. matches_parts (Boundary ∷ parts) (is_first before) (t ++ concat pieces)) none.0
    ∙ behind_nothing parts before (concat pieces) none.1 (ap (λ t. matches_parts parts (is_first t) (concat pieces)) (sym (ap (λ t. before ++ t) none.0 ∙ append-nil before)) ∙ rest))
    s.0

pub match_is : (pattern text : List ℕ) → (matches pattern text ≡ true) ↔ IsMatch (parts_of pattern) text
unfolding matches
match_is pattern text = (
  to_pieces (parts_of pattern) [] text,
  λ m. subst (λ t. matches_parts (parts_of pattern) true t ≡ true) m.1.0 (from_pieces (parts_of pattern) [] m.0 m.1.1),
)
