-- The least of the faults of two lists, and of one more.
use Rattle.std.proofs.Common.{◌≡◌, ◌++◌, ◌+◌, ◌<◌, ◌||◌, ℕ, Bool, true, false, cond, List, [], ◌∷◌, Option, None, Some, length, take, get_or, refl, ap, ◌∙◌}
use Rattle.std.specs.List.{flat_map, list_any}
use Rattle.std.proofs.lemmas.Grind.{flat_map-append}
use Rattle.std.proofs.lemmas.List.{take_more, append-nil}
use Rattle.std.proofs.lemmas.List.Folds.{list_any-append}
use Rattle.gn_paths.specs.declared.error.PathFault.{PathFault}
use Rattle.gn_paths.specs.declared.error.PathFault.TheVariants.{AboveRoot, BadPath}
use Rattle.gn_tool_texts.specs.Least.{is_above, is_bad, least, lesser}

-- nothing has a least, and the least of one fault is that fault
pub least_nothing : least [] ≡ None
unfolding least
least_nothing = refl

pub least_one : (fault : PathFault) → least (fault ∷ []) ≡ Some fault
unfolding least
least_one AboveRoot = refl
least_one BadPath = refl

-- the least by whether there are faults of either kind
abbrev by_kinds : Bool → Bool → Option PathFault
by_kinds above bad = cond above (Some AboveRoot) (cond bad (Some BadPath) None)

kinds_joined : (a b c d : Bool) → by_kinds (a || c) (b || d) ≡ lesser (by_kinds a b) (by_kinds c d)
kinds_joined true b c d = refl
kinds_joined false true true d = refl
kinds_joined false true false true = refl
kinds_joined false true false false = refl
kinds_joined false false c d = refl

-- the least of two lists is the lesser of what is the least of each
pub least_joined : (xs ys : List PathFault) → least (xs ++ ys) ≡ lesser (least xs) (least ys)
unfolding least
least_joined xs ys =
    ap (λ (z : Bool). by_kinds z (list_any is_bad (xs ++ ys))) (list_any-append is_above xs ys)
    ∙ ap (λ (z : Bool). by_kinds (list_any is_above xs || list_any is_above ys) z) (list_any-append is_bad xs ys)
    ∙ kinds_joined (list_any is_above xs) (list_any is_bad xs) (list_any is_above ys) (list_any is_bad ys)

-- the least of what some elements give, and one more
pub least_more : {A : Type 0} (f : A → List PathFault) (xs : List A) (i : ℕ) (x : A) → i < length xs
    → least (flat_map f (take (i + 1) xs)) ≡ lesser (least (flat_map f (take i xs))) (least (f (get_or xs i x)))
least_more f xs i x l =
    ap (λ z. least (flat_map f z)) (take_more xs i x l)
    ∙ ap least (flat_map-append f (take i xs) (get_or xs i x ∷ []))
    ∙ least_joined (flat_map f (take i xs)) (flat_map f (get_or xs i x ∷ []))
    ∙ ap (λ z. lesser (least (flat_map f (take i xs))) (least z)) (append-nil (f (get_or xs i x)))
