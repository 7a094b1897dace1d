-- What the answers for the places of a list show.
use Rattle.std.proofs.Common.{◌≡◌, ◌+◌, ◌<◌, ℕ, zero, suc, List, [], ◌∷◌, length, map, refl, subst, ◌∙◌}
use native.Mathlib.Omega.{arith}
use Rattle.std.specs.Prelude.{slice_index_or}
use Rattle.gn_threads.specs.Places.{AllFrom}

module _ {X Y P : Type 0} (show : Y → P) (f : X → P) where
  shown_from : (Is : ℕ → Y → Type 0) (n : ℕ) (xs : List X) (ys : List Y) → length ys ≡ length xs
      → ((place : ℕ) (y : Y) (d : X) → place < length xs → Is (n + place) y → show y ≡ f (slice_index_or xs place d))
      → AllFrom Is n ys → map show ys ≡ map f xs
  shown_from Is n [] [] same shows each = refl
  shown_from Is n [] (y ∷ ys) same shows each = absurd (omega (arith, same))
  shown_from Is n (x ∷ xs) [] same shows each = absurd (omega (arith, same))
  shown_from Is n (x ∷ xs) (y ∷ ys) same shows each =
      let here : n ≡ n + zero = omega arith in
      let first = shows zero y x (omega arith) (subst (λ k. Is k y) here each.0) in
      let later = λ (place : ℕ) (z : Y) (d : X) (within : place < length xs) (is : Is (suc n + place) z).
      let next : suc n + place ≡ n + suc place = omega arith in shows (suc place) z d (omega (arith, within)) (subst (λ k. Is k z) next is) in
      let rest = shown_from Is (suc n) xs ys (omega (arith, same)) later each.1 in
      (λ i. first i ∷ rest i)

  -- where each shows what is meant of the item at its place, all show what is meant of all, in their order
  pub shown : {At : ℕ → Y → Type 0} (count : ℕ) (xs : List X) (ys : List Y) → count ≡ length xs → length ys ≡ count → AllFrom At 0 ys
      → ((place : ℕ) (y : Y) (d : X) → place < length xs → At place y → show y ≡ f (slice_index_or xs place d)) → map show ys ≡ map f xs
  shown {At} count xs ys same whole each shows = shown_from At 0 xs ys (whole ∙ same) (λ place y d within is.
      let here : 0 + place ≡ place = omega arith in shows place y d within (subst (λ k. At k y) here is)) each
