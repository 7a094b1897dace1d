-- What a filter keeps.
use Rattle.std.proofs.Common.{◌≡◌, ℕ, ◌+◌, ◌<◌, ◌≤◌, Bool, true, false, cond, not, ◌||◌, List, [], ◌∷◌, ◌++◌, length, take, get_or, map, refl, sym, ap, ◌∙◌, arith, length-append}
use Rattle.std.specs.List.{filter}
use Rattle.std.proofs.lemmas.List.{map-append, length-take}
use Rattle.std.proofs.lemmas.List.Elements.{filter-append}
use Rattle.gn_values.specs.Val.{vstr}
use Rattle.gn_values.specs.Limits.{list_fits, max_items}
use Rattle.gn_values.specs.declared.value.Value.{Value}
use Rattle.gn_basics.proofs.Lists.{took_more}
use Rattle.gn_calls_text.specs.Calls.{text_list}
use Rattle.gn_calls_text.specs.Kept.{keeps, kept_by, matches_some_parts}
use Rattle.gn_calls_text.specs.declared.filters.Keep.{Keep}
use Rattle.gn_calls_text.specs.declared.filters.Keep.TheVariants.{Matching, Others}
use Rattle.gn_calls_text.specs.Patterns.{parts_of, matches_parts, matches, matches_some}
use Rattle.gn_calls_text.specs.Views.{bytes_in}
use Rattle.gn_calls_text.proofs.GrowthLemmas.{texts_fit}

filter_shorter : (p : List ℕ → Bool) (ts : List (List ℕ)) → length (filter p ts) ≤ length ts
filter_shorter p [] = omega arith
filter_shorter p (t ∷ ts) = by (p t) (filter_shorter p ts)
  where
    by : (v : Bool) → length (filter p ts) ≤ length ts → length (cond v (t ∷ filter p ts) (filter p ts)) ≤ length (t ∷ ts)
    by true h = omega arith
    by false h = omega arith

-- there is room for one more string
pub room_left : (p : List ℕ → Bool) (ts : List (List ℕ)) (i n : ℕ) (t : List ℕ) → i < n → n ≤ max_items → list_fits (text_list (filter p (take i ts)) ++ vstr t ∷ []) ≡ true
room_left p ts i n t h few =
    let kept = filter p (take i ts) in
    let short = filter_shorter p (take i ts) in
    let taken = length-take i ts in
    let long = length-append kept (t ∷ []) in
    ap list_fits (sym (map-append vstr kept (t ∷ []))) ∙ texts_fit (kept ++ t ∷ []) (omega arith)

-- one more string
pub kept_more : (p : List ℕ → Bool) (xs : List Value) (i : ℕ) (x : Value) → i < length xs → x ≡ get_or xs i x → text_list (filter p (take (i + 1) (map bytes_in xs))) ≡ text_list (filter p (take i (map bytes_in xs))) ++ text_list (filter p (bytes_in x ∷ []))
kept_more p xs i x h is =
    ap (λ ts. text_list (filter p ts)) (took_more bytes_in xs i x h is)
    ∙ ap text_list (filter-append p (take i (map bytes_in xs)) (bytes_in x ∷ []))
    ∙ map-append vstr (filter p (take i (map bytes_in xs))) (filter p (bytes_in x ∷ []))

any_read : (patterns : List (List ℕ)) (text : List ℕ) → matches_some_parts (map parts_of patterns) text ≡ matches_some patterns text
unfolding matches
any_read [] text = refl
any_read (p ∷ patterns) text = ap (λ v. matches_parts (parts_of p) true text || v) (any_read patterns text)

keeps_read : (keep : Keep) (patterns : List (List ℕ)) (text : List ℕ) → keeps keep (map parts_of patterns) text ≡ kept_by keep patterns text
keeps_read Matching patterns text = any_read patterns text
keeps_read Others patterns text = ap not (any_read patterns text)

-- the filter over patterns that are read
pub filter_read : (keep : Keep) (patterns ts : List (List ℕ)) → filter (keeps keep (map parts_of patterns)) ts ≡ filter (kept_by keep patterns) ts
filter_read keep patterns [] = refl
filter_read keep patterns (t ∷ ts) = λ i. cond (keeps_read keep patterns t i) (t ∷ filter_read keep patterns ts i) (filter_read keep patterns ts i)
