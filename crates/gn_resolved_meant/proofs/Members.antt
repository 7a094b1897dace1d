-- Labels of joined lists, and of the ends of paths.
use Rattle.std.proofs.Common.{◌≡◌, inl, inr, List, [], ◌∷◌, ◌++◌, map, Bool, true, false, ◌||◌, refl, sym, ◌∙◌, ap}
use Rattle.std.specs.List.{flat_map}
use Rattle.std.proofs.lemmas.Bool.{or_cases}
use Rattle.gn_labels.specs.declared.label.Label.{Label}
use Rattle.gn_dependencies.specs.Lists.{same_label, has}
use Rattle.gn_dependencies.specs.Shape.{Path, end_from}
use Rattle.gn_dependencies.specs.Cycles.{Lists}
use Rattle.gn_dependencies.proofs.Same.{own, same}
use Rattle.gn_dependencies.proofs.Has.{or_true, has_own}
use Rattle.gn_dependencies.proofs.Kept.{has-append}

pub has_later : (x : Label) (xs : List Label) (q : Label) → has xs q ≡ true → has (x ∷ xs) q ≡ true
has_later x xs q h = ap (λ b. same_label q x || b) h ∙ or_true (same_label q x)

pub has_left : (xs ys : List Label) (q : Label) → has xs q ≡ true → has (xs ++ ys) q ≡ true
has_left xs ys q h = has-append xs ys q ∙ ap (λ b. b || has ys q) h

pub has_right : (xs ys : List Label) (q : Label) → has ys q ≡ true → has (xs ++ ys) q ≡ true
has_right xs ys q h = has-append xs ys q ∙ ap (λ b. has xs q || b) h ∙ or_true (has xs q)

-- what joined lists have, one of them has
pub flat_has : (f : Label → List Label) (xs : List Label) (q : Label) → has (flat_map f xs) q ≡ true → (c : Label) × (has xs c ≡ true) × (has (f c) q ≡ true)
flat_has f [] q h = absurd (cc h)
flat_has f (x ∷ xs) q h = elim (or_cases (has (f x) q) (has (flat_map f xs) q) (sym (has-append (f x) (flat_map f xs) q) ∙ h)) [
  | inl a ↦ (x, has_own x xs, a)
  | inr b ↦ let r = flat_has f xs q b in (r.0, has_later x xs r.0 r.1, r.2)
]

module _ (t : Label) where
  pub has_end : (ps : List Path) (p : Path) → Lists ps p → has (map (end_from t) ps) (end_from t p) ≡ true
  has_end [] p l = absurd l
  has_end (q ∷ ps) p (inl e) =
      ap (λ b. b || has (map (end_from t) ps) (end_from t p)) (ap (λ (z : Path). same_label (end_from t p) (end_from t z)) e ∙ own (end_from t p))
  has_end (q ∷ ps) p (inr l) = has_later (end_from t q) (map (end_from t) ps) (end_from t p) (has_end ps p l)

  pub of_end : (ps : List Path) (q : Label) → has (map (end_from t) ps) q ≡ true → (p : Path) × Lists ps p × (end_from t p ≡ q)
  of_end [] q h = absurd (cc h)
  of_end (p ∷ ps) q h = go (same_label q (end_from t p)) refl h (of_end ps q)
    where
      go : (b : Bool) → same_label q (end_from t p) ≡ b → (b || has (map (end_from t) ps) q) ≡ true
          → (has (map (end_from t) ps) q ≡ true → (r : Path) × Lists ps r × (end_from t r ≡ q)) → (r : Path) × Lists (p ∷ ps) r × (end_from t r ≡ q)
      go true e i others = (p, inl refl, sym (same q (end_from t p) e))
      go false e i others = let r = others i in (r.0, inr r.1, r.2)
