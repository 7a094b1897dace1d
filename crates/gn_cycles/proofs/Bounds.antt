-- Labels whose dependencies reach no cycle reach none.
use Rattle.std.proofs.Common.{◌≡◌, ◌⊎◌, inl, inr, ℕ, suc, List, [], ◌∷◌, ◌++◌, Bool, true, false, ◌||◌, ◌&&◌, if◌then◌else◌, refl, sym, ◌∙◌, ap, subst, true≢false}
use Rattle.std.specs.List.{list_all}
use Rattle.std.proofs.lemmas.List.Folds.{list_all-append}
use Rattle.std.proofs.lemmas.Bool.{and_parts}
use Rattle.gn_labels.specs.declared.label.Label.{Label}
use Rattle.gn_dependencies.specs.Lists.{same_label, has}
use Rattle.gn_dependencies.specs.Shape.{Shape, all_deps, EndsWithin}
use Rattle.gn_dependencies.proofs.Same.{same}
use Rattle.gn_dependencies.proofs.Merge.{common_depth}
use Rattle.gn_cycles.specs.Settled.{AreSettled}
use Rattle.gn_cycles.proofs.Steps.{has_cases}

pub all_of_three : (p : Label → Bool) (xs ys zs : List Label) → list_all p ((xs ++ ys) ++ zs) ≡ (list_all p xs && (list_all p ys && list_all p zs))
all_of_three p xs ys zs = list_all-append p (xs ++ ys) zs ∙ ap (λ b. b && list_all p zs) (list_all-append p xs ys) ∙ joined (list_all p xs) (list_all p ys) (list_all p zs)
  where
    joined : (a b c : Bool) → ((a && b) && c) ≡ (a && (b && c))
    joined true b c = refl
    joined false b c = refl

all_by : (p : Label → Bool) (d x : Label) (xs : List Label) (b : Bool) → same_label d x ≡ b → (p x && list_all p xs) ≡ true → (b || has xs d) ≡ true
    → (list_all p xs ≡ true → has xs d ≡ true → p d ≡ true) → p d ≡ true
all_by p d x xs true e a h onward = let s : d ≡ x = same d x e in ap p s ∙ (and_parts (p x) (list_all p xs) a).0
all_by p d x xs false e a h onward = onward (and_parts (p x) (list_all p xs) a).1 h

each : (p : Label → Bool) (d : Label) (xs : List Label) → list_all p xs ≡ true → has xs d ≡ true → p d ≡ true
each p d [] a h = absurd (cc h)
each p d (x ∷ xs) a h = all_by p d x xs (same_label d x) refl a h (each p d xs)

pub one_more_settled : (g : Shape) (labels new : List Label) (x : Label) → AreSettled g labels → list_all (λ d. has labels d) (all_deps g x) ≡ true
    → new ≡ (if has labels x then labels else labels ++ x ∷ []) → AreSettled g new
one_more_settled g labels new x s a e = subst (AreSettled g) (sym e) (by (has labels x) refl)
  where
    bound : (n : ℕ) × EndsWithin g n x
    bound = let r = common_depth g (all_deps g x) (λ d i. s d (each (λ q. has labels q) d (all_deps g x) a i)) in (suc r.0, r.1)

    by : (b : Bool) → has labels x ≡ b → AreSettled g (if b then labels else labels ++ x ∷ [])
    by true h = s
    by false h = λ q i. elim (has_cases labels x q i) [
      | inl j ↦ s q j
      | inr j ↦ subst (λ (z : Label). (n : ℕ) × EndsWithin g n z) (sym j) bound
    ]
