-- Lists with later repeats dropped: each label once, at its first place.
use Rattle.std.proofs.Common.{◌≡◌, List, [], ◌∷◌, ◌++◌, Bool, true, false, cond, ◌||◌, refl, ◌∙◌, ap}
use Rattle.std.specs.List.{IsDistinct, AllByRecursion}
use Rattle.std.proofs.lemmas.Map.Keys.{IsDistinct-cons}
use Rattle.gn_labels.specs.declared.label.Label.{Label}
use Rattle.gn_dependencies.specs.Lists.{same_label, has, kept, firsts}
use Rattle.gn_dependencies.proofs.Same.{own, same}
use Rattle.gn_dependencies.proofs.Kept.{kept-append}

none_twice : IsDistinct same_label []
unfolding IsDistinct
none_twice = tt

-- what was seen isn't kept
unseen_by : (seen : Label → Bool) (q x : Label) (xs : List Label) (b : Bool) → seen x ≡ b → seen q ≡ true
    → ((t : Label → Bool) → t q ≡ true → has (kept t xs) q ≡ false)
    → has (cond b (kept seen xs) (x ∷ kept (λ y. seen y || same_label y x) xs)) q ≡ false
unseen_by seen q x xs true e h ih = ih seen h
unseen_by seen q x xs false e h ih = at (same_label q x) refl
  where
    at : (b : Bool) → same_label q x ≡ b → (same_label q x || has (kept (λ y. seen y || same_label y x) xs) q) ≡ false
    at true f = let k : seen q ≡ false = ap seen (same q x f) ∙ e in cc (h, k)
    at false f = ap (λ b. b || has (kept (λ y. seen y || same_label y x) xs) q) f ∙ ih (λ y. seen y || same_label y x) (ap (λ b. b || same_label q x) h)

pub unseen : (seen : Label → Bool) (q : Label) (xs : List Label) → seen q ≡ true → has (kept seen xs) q ≡ false
unseen seen q [] h = refl
unseen seen q (x ∷ xs) h = unseen_by seen q x xs (seen x) refl h (λ t k. unseen t q xs k)

apart : (x : Label) (xs : List Label) → has xs x ≡ false → AllByRecursion (λ y. same_label x y ≡ false) xs
apart x [] h = tt
apart x (y ∷ ys) h = let p = neither (same_label x y) (has ys x) h in (p.0, apart x ys p.1)
  where
    neither : (a b : Bool) → (a || b) ≡ false → (a ≡ false) × (b ≡ false)
    neither true b h = absurd (cc h)
    neither false b h = (refl, h)

or_true : (b : Bool) → (b || true) ≡ true
or_true true = refl
or_true false = refl

pub kept_once : (seen : Label → Bool) (xs : List Label) → IsDistinct same_label (kept seen xs)
kept_once seen [] = none_twice
kept_once seen (x ∷ xs) = at (seen x) (kept_once seen xs) (kept_once (λ y. seen y || same_label y x) xs)
  where
    more : Label → Bool
    more y = seen y || same_label y x

    at : (b : Bool) → IsDistinct same_label (kept seen xs) → IsDistinct same_label (kept (λ y. seen y || same_label y x) xs)
        → IsDistinct same_label (cond b (kept seen xs) (x ∷ kept (λ y. seen y || same_label y x) xs))
    at true a c = a
    at false a c = IsDistinct-cons same_label x (kept (λ y. seen y || same_label y x) xs)
        (apart x (kept (λ y. seen y || same_label y x) xs) (unseen (λ y. seen y || same_label y x) x xs (ap (λ b. seen x || b) (own x) ∙ or_true (seen x)))) c

-- a label that is new behind the first stands right behind those of them
pub first_place : (xs : List Label) (q : Label) (ys : List Label) → has xs q ≡ false → (rest : List Label) × (firsts (xs ++ q ∷ ys) ≡ firsts xs ++ q ∷ rest)
first_place xs q ys h = (
  kept (λ y. has xs y || same_label y q) ys,
  kept-append (λ _. false) xs (q ∷ ys) ∙ ap (λ b. firsts xs ++ cond b (kept (has xs) ys) (q ∷ kept (λ y. has xs y || same_label y q) ys)) h,
)
