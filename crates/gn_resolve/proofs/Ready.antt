-- The dependencies of a target that are all resolved.
use Rattle.std.proofs.Common.{◌≡◌, List, [], ◌∷◌, ◌++◌, Bool, true, false, ◌||◌, ◌&&◌, refl, ◌∙◌, ap}
use Rattle.std.specs.List.{list_all}
use Rattle.std.proofs.lemmas.List.Folds.{list_all-append}
use Rattle.std.proofs.lemmas.Bool.{and_parts}
use Rattle.gn_labels.specs.declared.label.Label.{Label}
use Rattle.gn_dependencies.specs.Lists.{same_label, has}
use Rattle.gn_dependencies.proofs.Same.{same}

pub all_of_three : (p : Label → Bool) (xs ys zs : List Label) → list_all p ((xs ++ ys) ++ zs) ≡ (list_all p xs && (list_all p ys && list_all p zs))
all_of_three p xs ys zs = list_all-append p (xs ++ ys) zs ∙ ap (λ b. b && list_all p zs) (list_all-append p xs ys) ∙ joined (list_all p xs) (list_all p ys) (list_all p zs)
  where
    joined : (a b c : Bool) → ((a && b) && c) ≡ (a && (b && c))
    joined true b c = refl
    joined false b c = refl

each_by : (p : Label → Bool) (d x : Label) (xs : List Label) (b : Bool) → same_label d x ≡ b → (p x && list_all p xs) ≡ true → (b || has xs d) ≡ true
    → (list_all p xs ≡ true → has xs d ≡ true → p d ≡ true) → p d ≡ true
each_by p d x xs true e a h onward = let s : d ≡ x = same d x e in ap p s ∙ (and_parts (p x) (list_all p xs) a).0
each_by p d x xs false e a h onward = onward (and_parts (p x) (list_all p xs) a).1 h

-- what is so of all is so of each
pub each : (p : Label → Bool) (d : Label) (xs : List Label) → list_all p xs ≡ true → has xs d ≡ true → p d ≡ true
each p d [] a h = absurd (cc h)
each p d (x ∷ xs) a h = each_by p d x xs (same_label d x) refl a h (each p d xs)
