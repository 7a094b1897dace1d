-- Rows of what a text comes to at each place of a pattern.
use Rattle.std.proofs.Common.{◌≡◌, ℕ, zero, suc, ◌+◌, ◌-◌, ◌<◌, ◌≤◌, ◌==◌, Bool, false, List, [], ◌∷◌, length, drop, get_or, sym, ap, ◌∙◌, subst, arith}
use Rattle.std.proofs.lemmas.List.{drop_more, drop_all}
use Rattle.std.proofs.Math.Dec.{eqb-suc-zero}
use Rattle.gn_calls_text.specs.declared.patterns.Part.{Part}
use Rattle.gn_calls_text.specs.Patterns.{matches_parts}
use Rattle.gn_calls_text.specs.Rows.{IsRow}

-- the row is right from a place on
abbrev pub FromPlace : List Part → Bool → List ℕ → List Bool → ℕ → Type 0
FromPlace parts first text row place = (k : ℕ) → place ≤ k → k ≤ length parts → get_or row k false ≡ matches_parts (drop k parts) first text

-- the row is still that of the text without its first byte before a place, and is that of the text from there on
pub record IsStepped (parts : List Part) (first : Bool) (byte : ℕ) (more : List ℕ) (behind : Bool) (row : List Bool) (place : ℕ) : Type 0 where
  pub known : behind ≡ matches_parts (drop place parts) false more
  pub below : (k : ℕ) → k < place → get_or row k false ≡ matches_parts (drop k parts) false more
  pub above : FromPlace parts first (byte ∷ more) row place

above_zero : (n : ℕ) → 0 < n → (n == 0) ≡ false
above_zero zero h = absurd (omega arith)
above_zero (suc n) h = eqb-suc-zero n

-- the row of a text from that of the text without its first byte
pub row_more : (parts : List Part) (text : List ℕ) (place : ℕ) (row row' : List Bool) → 0 < place → place ≤ length text → IsRow parts (place == 0) (drop place text) row → ((more : List ℕ) → IsRow parts false more row → IsRow parts (place - 1 == 0) (get_or text (place - 1) 0 ∷ more) row') → IsRow parts (place - 1 == 0) (drop (place - 1) text) row'
row_more parts text place row row' some within known step =
    let one : place - 1 + 1 ≡ place = omega arith in
    let same : drop (place - 1) text ≡ get_or text (place - 1) 0 ∷ drop place text = drop_more text (place - 1) 0 (omega arith) ∙ ap (λ n. get_or text (place - 1) 0 ∷ drop n text) one in
    subst (λ t. IsRow parts (place - 1 == 0) t row') (sym same) (step (drop place text) (subst (λ v. IsRow parts v (drop place text) row) (above_zero place some) known))

pub row_begins : (parts : List Part) (text : List ℕ) (row : List Bool) → ((first : Bool) → IsRow parts first [] row) → (length text ≤ length text) × IsRow parts (length text == 0) (drop (length text) text) row
row_begins parts text row h =
    let le : length text ≤ length text = omega arith in
    (le, subst (λ t. IsRow parts (length text == 0) t row) (sym (drop_all (length text) text le)) (h (length text == 0)))
