-- Membership tests on lists of labels.
use Rattle.std.proofs.Common.{◌≡◌, List, [], ◌∷◌, Bool, true, false, cond, ◌||◌, ◌&&◌, refl, ◌∙◌, ap, filter}
use Rattle.gn_labels.specs.declared.label.Label.{Label}
use Rattle.gn_dependencies.specs.Lists.{same_label, has, kept, added}
use Rattle.gn_dependencies.proofs.Same.{own, same}
use Rattle.gn_dependencies.proofs.Kept.{has-append, has-kept}

pub or_false : (b : Bool) → (b || false) ≡ b
or_false true = refl
or_false false = refl

pub or_true : (b : Bool) → (b || true) ≡ true
or_true true = refl
or_true false = refl

pub has_own : (x : Label) (xs : List Label) → has (x ∷ xs) x ≡ true
has_own x xs = ap (λ b. b || has xs x) (own x)

pub has-added : (out xs : List Label) (q : Label) → has (added out xs) q ≡ (has out q || has xs q)
has-added out xs q = has-append out (kept (has out) xs) q ∙ has-kept (has out) q xs

filter_by : (p : Label → Bool) (q x : Label) (xs : List Label) (b e : Bool) → p x ≡ b → same_label q x ≡ e → has (filter p xs) q ≡ (has xs q && p q)
    → has (cond b (x ∷ filter p xs) (filter p xs)) q ≡ ((e || has xs q) && p q)
filter_by p q x xs true true hb he ih = let k : p q ≡ true = ap p (same q x he) ∙ hb in rw (he, k) refl
filter_by p q x xs true false hb he ih = rw he ih
filter_by p q x xs false true hb he ih = let k : p q ≡ false = ap p (same q x he) ∙ hb in ih ∙ rw k (and_false (has xs q))
  where
    and_false : (b : Bool) → (b && false) ≡ false
    and_false true = refl
    and_false false = refl
filter_by p q x xs false false hb he ih = ih

pub has-filter : (p : Label → Bool) (q : Label) (xs : List Label) → has (filter p xs) q ≡ (has xs q && p q)
has-filter p q [] = refl
has-filter p q (x ∷ xs) = filter_by p q x xs (p x) (same_label q x) refl refl (has-filter p q xs)
