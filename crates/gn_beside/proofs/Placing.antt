-- What is put at places of a list.
use Rattle.std.proofs.Common.{◌≡◌, ◌+◌, ℕ, zero, suc, ◌<◌, List, [], ◌∷◌, ◌++◌, length, replicate, subst, sym}
use native.Mathlib.Omega.{arith}
use Rattle.std.specs.Prelude.{slice_index_or, slice_set}
use Rattle.gn_threads.specs.Places.{AllFrom}

module _ {X : Type 0} (Is : ℕ → X → Type 0) where
  -- an item that is right for each place
  pub each_from : (x : X) → ((place : ℕ) → Is place x) → (n count : ℕ) → AllFrom Is n (replicate count x)
  each_from x all n zero = tt
  each_from x all n (suc count) = (all n, each_from x all (suc n) count)

  -- the item at a place
  pub item_from : (n : ℕ) (xs : List X) (place : ℕ) (d : X) → AllFrom Is n xs → place < length xs → Is (n + place) (slice_index_or xs place d)
  item_from n [] place d each within = absurd (omega (arith, within))
  item_from n (x ∷ xs) zero d each within = let same : n ≡ n + zero = omega arith in subst (λ k. Is k x) same each.0
  item_from n (x ∷ xs) (suc place) d each within =
      let same : suc n + place ≡ n + suc place = omega arith in
      subst (λ k. Is k (slice_index_or xs place d)) same (item_from (suc n) xs place d each.1 (omega (arith, within)))

  -- an item at a place that it is right for
  pub put_from : (n : ℕ) (xs : List X) (place : ℕ) (x : X) → AllFrom Is n xs → Is (n + place) x → AllFrom Is n (slice_set xs place x)
  put_from n [] place x each is = tt
  put_from n (y ∷ xs) zero x each is = let same : n + zero ≡ n = omega arith in (subst (λ k. Is k x) same is, each.1)
  put_from n (y ∷ xs) (suc place) x each is =
      let same : n + suc place ≡ suc n + place = omega arith in (each.0, put_from (suc n) xs place x each.1 (subst (λ k. Is k x) same is))

  -- one item more
  pub pushed_from : (n : ℕ) (xs : List X) (x : X) → AllFrom Is n xs → Is (n + length xs) x → AllFrom Is n (xs ++ x ∷ [])
  pushed_from n [] x each is = let same : n + zero ≡ n = omega arith in (subst (λ k. Is k x) same is, tt)
  pushed_from n (y ∷ xs) x each is =
      let same : n + suc (length xs) ≡ suc n + length xs = omega arith in (each.0, pushed_from (suc n) xs x each.1 (subst (λ k. Is k x) same is))

  -- those that there were, and one more, behind the first place
  pub all_pushed_from : (all had : List X) (x : X) → all ≡ had ++ x ∷ [] → AllFrom Is 0 had → Is (length had) x → AllFrom Is 0 all
  all_pushed_from all had x is_with each is =
      let same : length had ≡ 0 + length had = omega arith in
      subst (AllFrom Is 0) (sym is_with) (pushed_from 0 had x each (subst (λ k. Is k x) same is))

  -- the same where the first place is that of the list
  pub item_at : (xs : List X) (place : ℕ) (d : X) → AllFrom Is 0 xs → place < length xs → Is place (slice_index_or xs place d)
  item_at xs place d each within =
      let same : 0 + place ≡ place = omega arith in subst (λ k. Is k (slice_index_or xs place d)) same (item_from 0 xs place d each within)

  pub put_at : (xs : List X) (place : ℕ) (x : X) → AllFrom Is 0 xs → Is place x → AllFrom Is 0 (slice_set xs place x)
  put_at xs place x each is = let same : place ≡ 0 + place = omega arith in put_from 0 xs place x each (subst (λ k. Is k x) same is)
