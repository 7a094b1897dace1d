-- Loops that ask a question of each item, which they see by a view.
use Rattle.std.proofs.Common.{◌≡◌, ℕ, zero, suc, ◌+◌, ◌<◌, ◌≤◌, Bool, true, false, cond, ◌||◌, ◌&&◌, not, List, [], ◌∷◌, ◌++◌, length, get_or, take, map, filter, refl, sym, ap, ◌∙◌, arith, max}
use Rattle.std.specs.List.{list_any, list_all}
use Rattle.gn_values.specs.Val.{Val, vals_of, depth_of, deepest_item}
use Rattle.gn_values.specs.Limits.{IsList, list_fits}
use Rattle.gn_values.specs.Operators.{is_among, without}
use Rattle.gn_values.specs.View.{val_of}
use Rattle.gn_values.specs.declared.value.Value.{Value}
use Rattle.gn_value_model.proofs.Within.{list_fits-list}
use Rattle.gn_basics.proofs.Lists.{took_more}
use Rattle.std.proofs.lemmas.Bool.{or_left, or_right, and_left, and_right}

module _ {Y : Type 0} (p : Y → Bool) where
  list_any-push : (xs : List Y) (y : Y) → list_any p xs ≡ false → p y ≡ false → list_any p (xs ++ y ∷ []) ≡ false
  list_any-push [] y h g = ap (λ b. b || false) g
  list_any-push (x ∷ xs) y h g = by (p x) h (λ (r : list_any p xs ≡ false). list_any-push xs y r g)
    where
      by : (b : Bool) → (b || list_any p xs) ≡ false → (list_any p xs ≡ false → list_any p (xs ++ y ∷ []) ≡ false) → (b || list_any p (xs ++ y ∷ [])) ≡ false
      by true h more = h
      by false h more = more h

  list_all-push : (xs : List Y) (y : Y) → list_all p xs ≡ true → p y ≡ true → list_all p (xs ++ y ∷ []) ≡ true
  list_all-push [] y h g = ap (λ b. b && true) g
  list_all-push (x ∷ xs) y h g = by (p x) h (λ (r : list_all p xs ≡ true). list_all-push xs y r g)
    where
      by : (b : Bool) → (b && list_all p xs) ≡ true → (list_all p xs ≡ true → list_all p (xs ++ y ∷ []) ≡ true) → (b && list_all p (xs ++ y ∷ [])) ≡ true
      by true h more = more h
      by false h more = h

  filter-push : (xs : List Y) (y : Y) → filter p (xs ++ y ∷ []) ≡ cond (p y) (filter p xs ++ y ∷ []) (filter p xs)
  filter-push [] y = refl
  filter-push (x ∷ xs) y = by (p x) (p y) (filter-push xs y)
    where
      by : (b d : Bool) → filter p (xs ++ y ∷ []) ≡ cond d (filter p xs ++ y ∷ []) (filter p xs) → cond b (x ∷ filter p (xs ++ y ∷ [])) (filter p (xs ++ y ∷ [])) ≡ cond d (cond b (x ∷ filter p xs) (filter p xs) ++ y ∷ []) (cond b (x ∷ filter p xs) (filter p xs))
      by true true h = ap (λ l. x ∷ l) h
      by true false h = ap (λ l. x ∷ l) h
      by false true h = h
      by false false h = h

module _ {X Y : Type 0} (f : X → Y) where
  module _ (p : Y → Bool) where
    pub any_at : (xs : List X) (i : ℕ) (x : X) → i < length xs → x ≡ get_or xs i x → p (f x) ≡ true → list_any p (map f xs) ≡ true
    any_at [] i x l e h = absurd (omega arith)
    any_at (y ∷ ys) zero x l e h = or_left (p (f y)) _ (ap (λ z. p (f z)) (sym e) ∙ h)
    any_at (y ∷ ys) (suc i) x l e h = or_right (p (f y)) _ (any_at ys i x (omega arith) e h)

    pub any_more : (xs : List X) (i : ℕ) (x : X) → i < length xs → x ≡ get_or xs i x → list_any p (take i (map f xs)) ≡ false → p (f x) ≡ false → list_any p (take (i + 1) (map f xs)) ≡ false
    any_more xs i x l e h g = ap (list_any p) (took_more f xs i x l e) ∙ list_any-push p (take i (map f xs)) (f x) h g

    pub not_all_at : (xs : List X) (i : ℕ) (x : X) → i < length xs → x ≡ get_or xs i x → p (f x) ≡ false → list_all p (map f xs) ≡ false
    not_all_at [] i x l e h = absurd (omega arith)
    not_all_at (y ∷ ys) zero x l e h = and_left (p (f y)) _ (ap (λ z. p (f z)) (sym e) ∙ h)
    not_all_at (y ∷ ys) (suc i) x l e h = and_right (p (f y)) _ (not_all_at ys i x (omega arith) e h)

    pub all_more : (xs : List X) (i : ℕ) (x : X) → i < length xs → x ≡ get_or xs i x → list_all p (take i (map f xs)) ≡ true → p (f x) ≡ true → list_all p (take (i + 1) (map f xs)) ≡ true
    all_more xs i x l e h g = ap (list_all p) (took_more f xs i x l e) ∙ list_all-push p (take i (map f xs)) (f x) h g

    pub filter_more : (xs : List X) (i : ℕ) (x : X) → i < length xs → x ≡ get_or xs i x → filter p (take (i + 1) (map f xs)) ≡ cond (p (f x)) (filter p (take i (map f xs)) ++ f x ∷ []) (filter p (take i (map f xs)))
    filter_more xs i x l e = ap (filter p) (took_more f xs i x l e) ∙ filter-push p (take i (map f xs)) (f x)

pub deepest_item-filter : (p : Val → Bool) (vs : List Val) → deepest_item (vals_of (filter p vs)) ≤ deepest_item (vals_of vs)
deepest_item-filter p [] = omega arith
deepest_item-filter p (v ∷ vs) = by (p v) (deepest_item-filter p vs)
  where
    by : (b : Bool) → deepest_item (vals_of (filter p vs)) ≤ deepest_item (vals_of vs) → deepest_item (vals_of (cond b (v ∷ filter p vs) (filter p vs))) ≤ max (depth_of v) (deepest_item (vals_of vs))
    by true h = omega arith
    by false h = omega arith

length-filter-le : (p : Val → Bool) (vs : List Val) → length (filter p vs) ≤ length vs
length-filter-le p [] = omega arith
length-filter-le p (v ∷ vs) = by (p v) (length-filter-le p vs)
  where
    by : (b : Bool) → length (filter p vs) ≤ length vs → length (cond b (v ∷ filter p vs) (filter p vs)) ≤ length (v ∷ vs)
    by true h = omega arith
    by false h = omega arith

deepest_item-take : (n : ℕ) (vs : List Val) → deepest_item (vals_of (take n vs)) ≤ deepest_item (vals_of vs)
deepest_item-take zero vs = omega arith
deepest_item-take (suc n) [] = omega arith
deepest_item-take (suc n) (v ∷ vs) = omega (arith, deepest_item-take n vs)

length-take-le : (n : ℕ) (vs : List Val) → length (take n vs) ≤ length vs
length-take-le zero vs = omega arith
length-take-le (suc n) [] = omega arith
length-take-le (suc n) (v ∷ vs) = omega (arith, length-take-le n vs)

-- what stays of a list is a list
pub list_filtered : (p : Val → Bool) (vs : List Val) (n : ℕ) → IsList vs → IsList (filter p (take n vs))
list_filtered p vs n h = record {
  shallow = omega (arith, h.shallow, deepest_item-filter p (take n vs), deepest_item-take n vs);
  short = omega (arith, h.short, length-filter-le p (take n vs), length-take-le n vs);
}

-- a loop that takes the items that equal none of the others
module _ (xs : List Value) (taken : List Val) (i : ℕ) (x : Value) (kept : List Val) where
  pub kept_same : i < length xs → x ≡ get_or xs i x → kept ≡ without (take i (map val_of xs)) taken → is_among (val_of x) taken ≡ true → kept ≡ without (take (i + 1) (map val_of xs)) taken
  kept_same l e h g =
      let front = without (take i (map val_of xs)) taken in
      h ∙ ap (λ b. cond (not b) (front ++ val_of x ∷ []) front) (sym g) ∙ sym (filter_more val_of (λ v. not (is_among v taken)) xs i x l e)

  pub kept_more : i < length xs → x ≡ get_or xs i x → kept ≡ without (take i (map val_of xs)) taken → is_among (val_of x) taken ≡ false → kept ++ val_of x ∷ [] ≡ without (take (i + 1) (map val_of xs)) taken
  kept_more l e h g =
      let front = without (take i (map val_of xs)) taken in
      ap (λ ks. ks ++ val_of x ∷ []) h ∙ ap (λ b. cond (not b) (front ++ val_of x ∷ []) front) (sym g) ∙ sym (filter_more val_of (λ v. not (is_among v taken)) xs i x l e)

  pub kept_fits : i < length xs → x ≡ get_or xs i x → kept ≡ without (take i (map val_of xs)) taken → is_among (val_of x) taken ≡ false → IsList (map val_of xs) → list_fits (kept ++ val_of x ∷ []) ≡ true
  kept_fits l e h g is = ap list_fits (kept_more l e h g) ∙ list_fits-list _ (list_filtered (λ v. not (is_among v taken)) (map val_of xs) (i + 1) is)
