-- The numbers of a list, and the place of each.
use Rattle.std.proofs.Common.{◌≡◌, ℕ, zero, suc, ◌<◌, ◌≤◌, List, [], ◌∷◌, ◌++◌, length, take, get_or, Bool, true, false, Some, None, slice_get}
use Rattle.std.proofs.Common.{refl, sym, ◌∙◌, ap, nat_eq, eq-eqb, eqb-true, true≢false, arith, inl, inr, ◌⊎◌}
use Rattle.std.specs.List.{IsDistinct, AllByRecursion}
use Rattle.std.proofs.lemmas.Bool.{false_from_ne_true}
use Rattle.std.proofs.lemmas.List.{length-take-le, get_or-take}
use Rattle.std.proofs.lemmas.Option.{get_or_from_slice_get}
use Rattle.gn_graph.specs.Clauses.{has}
use Rattle.gn_graph.specs.Places.{ArePlaces}
use Rattle.gn_graph.proofs.Has.{has_at, has_index, index_has}

pub get_left : {A : Type 0} (xs ys : List A) (i : ℕ) (x : A) → slice_get xs i ≡ Some x → slice_get (xs ++ ys) i ≡ Some x
get_left [] ys i x e = absurd (cc e)
get_left (z ∷ xs) ys zero x e = e
get_left (z ∷ xs) ys (suc i) x e = get_left xs ys i x e

get_taken : (n : ℕ) (xs : List ℕ) (i x : ℕ) → slice_get (take n xs) i ≡ Some x → (slice_get xs i ≡ Some x) × (i < n)
get_taken zero xs i x e = absurd (cc e)
get_taken (suc n) [] i x e = absurd (cc e)
get_taken (suc n) (z ∷ xs) zero x e = (e, omega arith)
get_taken (suc n) (z ∷ xs) (suc i) x e = let k = get_taken n xs i x e in (k.0, omega (arith, k.1))

get_last : (xs : List ℕ) (y : ℕ) (i x : ℕ) → slice_get (xs ++ y ∷ []) i ≡ Some x → (slice_get xs i ≡ Some x) ⊎ ((i ≡ length xs) × (x ≡ y))
get_last [] y zero x e = let f : y ≡ x = cc e in inr (refl, sym f)
get_last [] y (suc i) x e = absurd (cc e)
get_last (z ∷ xs) y zero x e = inl e
get_last (z ∷ xs) y (suc i) x e = elim (get_last xs y i x e) [ inl a ↦ inl a | inr b ↦ inr (ap suc b.0, b.1) ]

module _ (list places : List ℕ) (a : ArePlaces list places) (p n : ℕ) (w : n ≤ length list) where
  place : has (take n list) p ≡ true → (i : ℕ) × (slice_get places p ≡ Some i) × (slice_get list i ≡ Some p) × (i < n)
  place m = let k = has_index (take n list) p m in let g = get_taken n list k.0 p k.1 in (k.0, a k.0 p g.0, g.0, g.1)

  -- a number with no place, or one behind, isn't there
  pub no_place : slice_get places p ≡ None → has (take n list) p ≡ false
  no_place e = false_from_ne_true (has (take n list) p) (λ m. let k = place m in absurd (cc (e, k.1)))

  pub far_place : (i : ℕ) → slice_get places p ≡ Some i → n ≤ i → has (take n list) p ≡ false
  far_place i e l = false_from_ne_true (has (take n list) p) (λ m. let k = place m in let j : i ≡ k.0 = cc (e, k.1) in absurd (omega (arith, k.3, l, j)))

  -- else the list tells at the place
  pub near_place : (i : ℕ) → slice_get places p ≡ Some i → i < n → nat_eq (get_or list i 0) p ≡ has (take n list) p
  near_place i e l = by (nat_eq (get_or list i 0) p) refl
    where
      by : (b : Bool) → nat_eq (get_or list i 0) p ≡ b → b ≡ has (take n list) p
      by true f =
          let g : get_or (take n list) i 0 ≡ p = get_or-take n list i 0 l ∙ eqb-true (get_or list i 0) p f in
          sym (ap (has (take n list)) (sym g) ∙ has_at (take n list) i (omega (arith, l, length-take-le n list w)))
      by false f = sym (false_from_ne_true (has (take n list) p) (λ m.
          let k = place m in
          let j : i ≡ k.0 = cc (e, k.1) in
          let g : get_or list i 0 ≡ p = get_or_from_slice_get list i p 0 (ap (slice_get list) j ∙ k.2) in
          true≢false (sym (eq-eqb (get_or list i 0) p g) ∙ f)))

-- a list whose numbers have places has each once
apart_all : (x : ℕ) (xs : List ℕ) → ((i : ℕ) → slice_get xs i ≡ Some x → ⊥) → AllByRecursion (λ y. nat_eq x y ≡ false) xs
apart_all x [] f = tt
apart_all x (y ∷ xs) f = (false_from_ne_true (nat_eq x y) (λ e. f 0 (ap Some (sym (eqb-true x y e)))), apart_all x xs (λ i. f (suc i)))

single_distinct : (xs : List ℕ) → ((i j p : ℕ) → slice_get xs i ≡ Some p → slice_get xs j ≡ Some p → i ≡ j) → IsDistinct nat_eq xs
unfolding IsDistinct
single_distinct [] t = tt
single_distinct (x ∷ xs) t = (
  apart_all x xs (λ i e. let k : zero ≡ suc i = t zero (suc i) x refl e in absurd (omega (arith, k))),
  single_distinct xs (λ i j p a b. let k : suc i ≡ suc j = t (suc i) (suc j) p a b in omega (arith, k)),
)

pub placed_once : (list places : List ℕ) → ArePlaces list places → IsDistinct nat_eq list
placed_once list places a = single_distinct list (λ i j p e f. let g : slice_get places p ≡ Some i = a i p e in let h : slice_get places p ≡ Some j = a j p f in cc (g, h))

-- a number that isn't there gets a place behind the others
pub placed_more : (list old new : List ℕ) (p : ℕ) → ArePlaces list old → has list p ≡ false → slice_get new p ≡ Some (length list)
    → ((q i : ℕ) → nat_eq q p ≡ false → slice_get old q ≡ Some i → slice_get new q ≡ Some i) → ArePlaces (list ++ p ∷ []) new
placed_more list old new p a out own others i q e = elim (get_last list p i q e) [
  | inl f ↦ others q i (false_from_ne_true (nat_eq q p) (λ g. true≢false (sym (index_has list i q f) ∙ ap (has list) (eqb-true q p g) ∙ out))) (a i q f)
  | inr f ↦ ap (slice_get new) f.1 ∙ own ∙ ap Some (sym f.0)
]

-- what isn't there may get any place
pub placed_still : (list old new : List ℕ) (p : ℕ) → ArePlaces list old → has list p ≡ false
    → ((q i : ℕ) → nat_eq q p ≡ false → slice_get old q ≡ Some i → slice_get new q ≡ Some i) → ArePlaces list new
placed_still list old new p a out others i q e = others q i (false_from_ne_true (nat_eq q p) (λ g. true≢false (sym (index_has list i q e) ∙ ap (has list) (eqb-true q p g) ∙ out))) (a i q e)

pub placed_cut : (list places : List ℕ) (n : ℕ) → ArePlaces list places → ArePlaces (take n list) places
placed_cut list places n a i q e = a i q (get_taken n list i q e).0
