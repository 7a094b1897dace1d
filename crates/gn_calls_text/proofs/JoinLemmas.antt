-- Texts with a separator between two.
use Rattle.std.proofs.Common.{◌≡◌, ℕ, ◌+◌, ◌<◌, List, ◌++◌, length, map, drop, get_or, sym, ap, ◌∙◌}
use Rattle.std.specs.List.{flat_map}
use Rattle.std.proofs.lemmas.List.{drop_more}
use Rattle.gn_values.specs.declared.value.Value.{Value}
use Rattle.gn_calls_text.specs.Views.{bytes_in}

-- the next text, behind a separator
pub further_more : (separator : List ℕ) (xs : List Value) (i : ℕ) (x : Value) (bytes : List ℕ) → i < length xs → x ≡ get_or xs i x → bytes ≡ bytes_in x → flat_map (λ t. separator ++ t) (map bytes_in (drop i xs)) ≡ (separator ++ bytes) ++ flat_map (λ t. separator ++ t) (map bytes_in (drop (i + 1) xs))
further_more separator xs i x bytes h is same =
    ap (λ ys. flat_map (λ t. separator ++ t) (map bytes_in ys)) (drop_more xs i x h)
    ∙ ap (λ t. (separator ++ t) ++ flat_map (λ t. separator ++ t) (map bytes_in (drop (i + 1) xs))) (ap bytes_in (sym is) ∙ sym same)
