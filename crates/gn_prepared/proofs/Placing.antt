-- What the answers for the places of a list are for its items.
use Rattle.std.proofs.Common.{◌≡◌, ◌+◌, ◌<◌, ℕ, zero, suc, List, [], ◌∷◌, length, subst, ◌∙◌}
use native.Mathlib.Omega.{arith}
use Rattle.std.specs.Prelude.{slice_index_or}
use Rattle.std.specs.List.{AllZip}
use Rattle.gn_threads.specs.Places.{AllFrom}

module _ {X Y : Type 0} (Is : X → Y → Type 0) where
  related_from : (At : ℕ → Y → Type 0) (n : ℕ) (xs : List X) (ys : List Y) → length ys ≡ length xs
      → ((place : ℕ) (y : Y) (d : X) → place < length xs → At (n + place) y → Is (slice_index_or xs place d) y)
      → AllFrom At n ys → AllZip Is xs ys
  related_from At n [] [] same relates each = tt
  related_from At n [] (y ∷ ys) same relates each = absurd (omega (arith, same))
  related_from At n (x ∷ xs) [] same relates each = absurd (omega (arith, same))
  related_from At n (x ∷ xs) (y ∷ ys) same relates each =
      let here : n ≡ n + zero = omega arith in
      let later = λ (place : ℕ) (z : Y) (d : X) (within : place < length xs) (at : At (suc n + place) z).
      let next : suc n + place ≡ n + suc place = omega arith in relates (suc place) z d (omega (arith, within)) (subst (λ k. At k z) next at) in
      (relates zero y x (omega arith) (subst (λ k. At k y) here each.0), related_from At (suc n) xs ys (omega (arith, same)) later each.1)

  -- where each is related to the item at its place, all are to all, in their order
  pub related : {At : ℕ → Y → Type 0} (count : ℕ) (xs : List X) (ys : List Y) → count ≡ length xs → length ys ≡ count → AllFrom At 0 ys
      → ((place : ℕ) (y : Y) (d : X) → place < length xs → At place y → Is (slice_index_or xs place d) y) → AllZip Is xs ys
  related {At} count xs ys same whole each relates = related_from At 0 xs ys (whole ∙ same) (λ place y d within is.
      let here : 0 + place ≡ place = omega arith in relates place y d within (subst (λ k. At k y) here is)) each
