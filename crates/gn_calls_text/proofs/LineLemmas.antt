-- The lines of a text that is cut at its newlines.
use Rattle.std.proofs.Common.{◌≡◌, ℕ, zero, suc, ◌+◌, ◌-◌, ◌<◌, ◌≤◌, List, [], ◌∷◌, ◌++◌, length, take, drop, Option, Some, None, refl, ap, ◌∙◌}
use Rattle.std.specs.List.{filter}
use Rattle.memchr.specs.Find.{FindsNeedle}
use Rattle.gn_values.specs.Val.{vstr}
use Rattle.gn_calls_text.specs.Calls.{text_list}
use Rattle.gn_calls_text.specs.Conversions.{trimmed, lines_in}
use Rattle.gn_calls_text.specs.Pieces.{first_place, cut, cut_at, is_filled}
use Rattle.gn_calls_text.proofs.CutLemmas.{cut_more, cut_none, cut_over}

-- there is always a piece behind a newline
line_piece : (t : List ℕ) (left : ℕ) (newline text : List ℕ) → lines_in (t ∷ cut left newline text) ≡ trimmed t ∷ lines_in (cut left newline text)
unfolding cut
line_piece t zero newline text = refl
line_piece t (suc n) newline text = by (first_place newline text)
  where
    by : (p : Option ℕ) → lines_in (t ∷ cut_at (cut n newline) newline text p) ≡ trimmed t ∷ lines_in (cut_at (cut n newline) newline text p)
    by None = refl
    by (Some k) = refl

pub lines_more : (left place : ℕ) (newline text piece : List ℕ) → 0 < left → FindsNeedle text newline 0 (Some place) → piece ≡ take place text → text_list (lines_in (cut left newline text)) ≡ (vstr (trimmed piece) ∷ []) ++ text_list (lines_in (cut (left - 1) newline (drop (place + length newline) text)))
lines_more left place newline text piece some found is =
    ap (λ ts. text_list (lines_in ts)) (cut_more left place newline text piece some found is)
    ∙ ap text_list (line_piece piece (left - 1) newline (drop (place + length newline) text))

pub lines_none : (left : ℕ) (newline text : List ℕ) → FindsNeedle text newline 0 None → text_list (lines_in (cut left newline text)) ≡ text_list (filter is_filled (trimmed text ∷ []))
lines_none left newline text found = ap (λ ts. text_list (lines_in ts)) (cut_none left newline text found)

pub lines_over : (left : ℕ) (newline text : List ℕ) → left ≤ 0 → text_list (lines_in (cut left newline text)) ≡ text_list (filter is_filled (trimmed text ∷ []))
lines_over left newline text over = ap (λ ts. text_list (lines_in ts)) (cut_over left newline text over)
