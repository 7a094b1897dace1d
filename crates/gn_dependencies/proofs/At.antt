-- What stands at the places of lists.
use Rattle.std.proofs.Common.{◌≡◌, ◌⊎◌, inl, inr, ℕ, zero, suc, ◌<◌, List, [], ◌∷◌, ◌++◌, length, slice_get, Some, refl, sym, ◌∙◌, ap, arith}
use Rattle.std.proofs.lemmas.Bool.{cases_lt}
use Rattle.std.proofs.lemmas.List.{length-append}
use Rattle.gn_dependencies.proofs.OrderLaws.{at_some, within}

module _ {A : Type 0} where
  -- what stood there stands there still
  pub left_at : (xs ys : List A) (k : ℕ) (x : A) → slice_get xs k ≡ Some x → slice_get (xs ++ ys) k ≡ Some x
  left_at [] ys k x e = absurd (cc e)
  left_at (y ∷ xs) ys zero x e = e
  left_at (y ∷ xs) ys (suc k) x e = left_at xs ys k x e

  pub was_at : (xs ys : List A) (k : ℕ) (x : A) → k < length xs → slice_get (xs ++ ys) k ≡ Some x → slice_get xs k ≡ Some x
  was_at xs ys k x l e = let y = at_some xs k l in y.1 ∙ sym (left_at xs ys k y.0 y.1) ∙ e

  pub last_at : (xs : List A) (x : A) → slice_get (xs ++ x ∷ []) (length xs) ≡ Some x
  last_at [] x = refl
  last_at (y ∷ xs) x = last_at xs x

  pub one_there : (x y : A) → Some x ≡ Some y → x ≡ y
  one_there x y e = cc e

  -- a place of a list with one more is one of the list, or the last
  pub place_cases : (xs : List A) (x y : A) (k : ℕ) → slice_get (xs ++ x ∷ []) k ≡ Some y → ((k < length xs) × (slice_get xs k ≡ Some y)) ⊎ ((k ≡ length xs) × (x ≡ y))
  place_cases xs x y k e = elim (cases_lt k (length xs)) [
    | inl l ↦ inl (l, was_at xs (x ∷ []) k y l e)
    | inr l ↦
        let b : k < length (xs ++ x ∷ []) = within (xs ++ x ∷ []) k y e in
        let s : k ≡ length xs = omega (arith, l, b, length-append xs (x ∷ [])) in
        inr (s, one_there x y (sym (last_at xs x) ∙ ap (slice_get (xs ++ x ∷ [])) (sym s) ∙ e))
  ]
