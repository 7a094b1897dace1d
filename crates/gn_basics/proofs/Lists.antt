-- Loops that go over a list and see each item by a view, and the pieces of a list that is split.
use Rattle.std.proofs.Common.{◌≡◌, ℕ, Bool, ◌+◌, ◌<◌, List, [], ◌∷◌, ◌++◌, length, get_or, take, drop, map, add-one, drop-cons, refl, sym, ap, ◌∙◌, subst, arith}
use Rattle.std.specs.List.{slice_split, position_or_len}
use Rattle.std.proofs.lemmas.List.{take_more, take_more_same, map-append, length-map, get_or-map}
use Rattle.std.proofs.lemmas.List.Splits.{slice_split_none, slice_split_first}
use Rattle.std.proofs.lemmas.List.Sums.{fails_before_first}

module _ {X Y : Type 0} (f : X → Y) where
  pub map_grown : (made made' xs : List X) (i : ℕ) (x item : X) → i < length xs → map f made ≡ take i (map f xs) → item ≡ get_or xs i item → f x ≡ f item → made' ≡ made ++ x ∷ [] → map f made' ≡ take (i + 1) (map f xs)
  map_grown made made' xs i x item h inv is same grown =
      let within : i < length (map f xs) = omega (arith, length-map xs f) in
      ap (map f) grown ∙ map-append f made (x ∷ []) ∙ ap (λ r. r ++ f x ∷ []) inv
      ∙ ap (λ y. take i (map f xs) ++ y ∷ []) (same ∙ ap f is ∙ sym (get_or-map f xs i item (f item) h))
      ∙ sym (take_more (map f xs) i (f item) within)

  pub took_more : (xs : List X) (i : ℕ) (x : X) → i < length xs → x ≡ get_or xs i x → take (i + 1) (map f xs) ≡ take i (map f xs) ++ f x ∷ []
  took_more xs i x h is =
      let within : i < length (map f xs) = omega (arith, length-map xs f) in
      take_more (map f xs) i (f x) within ∙ ap (λ y. take i (map f xs) ++ y ∷ []) (get_or-map f xs i x (f x) h ∙ ap f (sym is))

  pub equal_more : (xs ys : List X) (i : ℕ) (x y : X) → i < length xs → i < length ys → take i (map f xs) ≡ take i (map f ys) → x ≡ get_or xs i x → y ≡ get_or ys i y → f x ≡ f y → take (i + 1) (map f xs) ≡ take (i + 1) (map f ys)
  equal_more xs ys i x y hx hy inv ix iy same =
      let wx : i < length (map f xs) = omega (arith, length-map xs f) in
      let wy : i < length (map f ys) = omega (arith, length-map ys f) in
      take_more_same (map f xs) (map f ys) i (f x) wx wy inv
      (get_or-map f xs i x (f x) hx ∙ ap f (sym ix) ∙ same ∙ ap f iy ∙ sym (get_or-map f ys i y (f x) hy))

  pub unequal_at : (xs ys : List X) (i : ℕ) (x y : X) → i < length xs → i < length ys → x ≡ get_or xs i x → y ≡ get_or ys i y → map f xs ≡ map f ys → f x ≡ f y
  unequal_at xs ys i x y hx hy ix iy same =
      ap f ix ∙ sym (get_or-map f xs i x (f x) hx) ∙ ap (λ l. get_or l i (f x)) same ∙ get_or-map f ys i y (f x) hy ∙ ap f (sym iy)

-- what begins at a place is what stands there, and what comes behind it
pub drop_here : {X : Type 0} (s : List X) (i : ℕ) (d : X) → i < length s → drop i s ≡ get_or s i d ∷ drop (i + 1) s
drop_here s i d h = rw (add-one, drop-cons s i d) refl

-- the first piece of a list that is split, as it is found by the place of the first item at which it is
module _ (test : ℕ → Bool) (t : List ℕ) where
  pub split_last : position_or_len test t ≡ length t → slice_split test t ≡ t ∷ []
  split_last e = slice_split_none test t (λ k d l. fails_before_first test t k d (omega (arith, e)))

  pub split_more : (n : ℕ) → n ≡ position_or_len test t → n < length t → slice_split test t ≡ take n t ∷ slice_split test (drop (n + 1) t)
  split_more n e l =
      let P : ℕ → Type 0 = λ m. slice_split test t ≡ take m t ∷ slice_split test (drop (m + 1) t) in
      subst P (sym e) (slice_split_first test t 0 (omega (arith, e)))
