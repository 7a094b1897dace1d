-- Lists that are empty together, and lists that share the places of a third.
use Rattle.std.proofs.Common.{arith, ◌≡◌, ◌+◌, ◌++◌, ℕ, zero, suc, List, [], ◌∷◌, Some, length, slice_get, refl, subst, ap, ◌∙◌}
use Rattle.std.specs.List.{flat_map}
use Rattle.std.proofs.lemmas.List.{length-append}

-- ---- two lists
pub first_empty : {A : Type 0} (xs ys : List A) → xs ++ ys ≡ [] → xs ≡ []
first_empty [] ys h = refl
first_empty (x ∷ xs) ys h = absurd (cc h)

pub second_empty : {A : Type 0} (xs ys : List A) → xs ++ ys ≡ [] → ys ≡ []
second_empty [] ys h = h
second_empty (x ∷ xs) ys h = absurd (cc h)

pub both_empty : {A : Type 0} (xs ys : List A) → xs ≡ [] → ys ≡ [] → xs ++ ys ≡ []
both_empty xs ys h g = ap (λ zs. zs ++ ys) h ∙ g

no_length : {A : Type 0} (xs : List A) → length xs ≡ 0 → xs ≡ []
no_length [] h = refl
no_length (x ∷ xs) h = absurd (omega (arith, h))

-- ---- what each element of a list gives
module _ {A B : Type 0} (f : A → List B) where
  pub each_empty : (xs : List A) → flat_map f xs ≡ [] → (k : ℕ) (x : A) → slice_get xs k ≡ Some x → f x ≡ []
  each_empty [] h k x e = absurd (cc e)
  each_empty (y ∷ ys) h zero x e = let s : y ≡ x = cc e in subst (λ (z : A). f z ≡ []) s (first_empty (f y) (flat_map f ys) h)
  each_empty (y ∷ ys) h (suc k) x e = each_empty ys (second_empty (f y) (flat_map f ys) h) k x e

  pub all_empty : (xs : List A) → ((k : ℕ) (x : A) → slice_get xs k ≡ Some x → f x ≡ []) → flat_map f xs ≡ []
  all_empty [] h = refl
  all_empty (x ∷ xs) h = both_empty (f x) (flat_map f xs) (h 0 x refl) (all_empty xs (λ k y e. h (suc k) y e))

-- ---- of each element either one or the other gives one
module _ {A B C : Type 0} (f : A → List B) (g : A → List C) (one : (x : A) → length (f x) + length (g x) ≡ 1) where
  shared : (xs : List A) → length (flat_map f xs) + length (flat_map g xs) ≡ length xs
  shared [] = refl
  shared (x ∷ xs) =
      omega (arith, one x, shared xs, length-append (f x) (flat_map f xs), length-append (g x) (flat_map g xs))

  pub full_if_empty : (xs : List A) → flat_map g xs ≡ [] → length (flat_map f xs) ≡ length xs
  full_if_empty xs h = let e : length (flat_map g xs) ≡ 0 = ap length h in omega (arith, shared xs, e)

  pub empty_if_full : (xs : List A) → length (flat_map f xs) ≡ length xs → flat_map g xs ≡ []
  empty_if_full xs h = no_length (flat_map g xs) (omega (arith, shared xs, h))
