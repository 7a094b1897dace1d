-- The last override of a name.
use Rattle.std.proofs.Common.{◌≡◌, ℕ, ◌+◌, ◌<◌, List, [], ◌∷◌, ◌++◌, length, take, get_or, Option, Some, None, option_map, refl, sym, ap, ◌∙◌}
use Rattle.std.specs.List.{filter_map, last_or, cons_option, AllByRecursion}
use Rattle.std.specs.Option.{unwrap_or, option_or}
use Rattle.std.proofs.lemmas.List.{take_more}
use Rattle.std.proofs.lemmas.List.Elements.{filter_map-append}
use Rattle.gn_values.specs.Operators.{value_at}
use Rattle.gn_values.specs.Val.{Val}
use Rattle.gn_args.specs.Arguments.{override_of, applied}

-- the last item of two lists, one behind the other
last_of_both : {A : Type 0} (o : Option A) (xs ys : List A) → last_or o (xs ++ ys) ≡ last_or (last_or o xs) ys
last_of_both o [] ys = refl
last_of_both o (x ∷ xs) ys = last_of_both (Some x) xs ys

-- the last item with one more, if there is one
last_of_more : {A : Type 0} (found more : Option A) → last_or found (cons_option more []) ≡ option_or more found
last_of_more found None = refl
last_of_more found (Some x) = refl

-- what one more list makes of the override
pub override_more : (name : List ℕ) (lists : List (List (List ℕ × Val))) (l : List (List ℕ × Val)) → override_of name (lists ++ l ∷ []) ≡ option_or (value_at name l) (override_of name lists)
override_more name lists l =
    ap (last_or None) (filter_map-append (value_at name) lists (l ∷ []))
    ∙ last_of_both None (filter_map (value_at name) lists) (filter_map (value_at name) (l ∷ []))
    ∙ last_of_more (override_of name lists) (value_at name l)

-- one of two that is there, seen
seen_or : {V A : Type 0} (f : V → A) (more found : Option V) → option_map f (option_or more found) ≡ option_or (option_map f more) (option_map f found)
seen_or f None found = refl
seen_or f (Some v) found = refl

-- the override in the lists looked at, when one more is
pub override_taken : {V : Type 0} (f : V → Val) (name : List ℕ) (lists : List (List (List ℕ × Val))) (i : ℕ) (l : List (List ℕ × Val)) (more found : Option V)
    → i < length lists → l ≡ get_or lists i l → option_map f more ≡ value_at name l → option_map f found ≡ override_of name (take i lists)
    → option_map f (option_or more found) ≡ override_of name (take (i + 1) lists)
override_taken f name lists i l more found h is one before =
    seen_or f more found
    ∙ (λ j. option_or (one j) (before j))
    ∙ sym (override_more name (take i lists) l)
    ∙ ap (λ x. override_of name (take i lists ++ x ∷ [])) is
    ∙ ap (override_of name) (sym (take_more lists i l h))

-- lists without the name have no override
none_of : (name : List ℕ) (lists : List (List (List ℕ × Val))) → AllByRecursion (λ l. value_at name l ≡ None) lists → filter_map (value_at name) lists ≡ []
none_of name [] h = refl
none_of name (l ∷ ls) h = ap (λ o. cons_option o (filter_map (value_at name) ls)) h.0 ∙ none_of name ls h.1

pub given_nowhere : (lists : List (List (List ℕ × Val))) (name : List ℕ) (default : Val) → AllByRecursion (λ l. value_at name l ≡ None) lists → applied lists name default ≡ default
given_nowhere lists name default h = ap (λ found. unwrap_or (last_or None found) default) (none_of name lists h)

pub given_last : (before after : List (List (List ℕ × Val))) (l : List (List ℕ × Val)) (name : List ℕ) (value default : Val) → value_at name l ≡ Some value → AllByRecursion (λ l. value_at name l ≡ None) after → applied (before ++ l ∷ after) name default ≡ value
given_last before after l name value default is h =
    ap (λ found. unwrap_or (last_or None found) default) (filter_map-append (value_at name) before (l ∷ after))
    ∙ ap (λ found. unwrap_or found default) (last_of_both None (filter_map (value_at name) before) (filter_map (value_at name) (l ∷ after)))
    ∙ ap (λ rest. unwrap_or (last_or (override_of name before) rest) default) (ap (λ o. cons_option o (filter_map (value_at name) after)) is ∙ ap (λ found. value ∷ found) (none_of name after h))
