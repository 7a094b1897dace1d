-- Members of lists.
use Rattle.std.proofs.Common.{◌≡◌, ◌⊎◌, inl, inr, zero, suc, List, [], ◌∷◌, map, refl, subst, arith}
use Rattle.std.specs.List.{Contains, flat_map}
use Rattle.std.proofs.lemmas.List.Elements.{Contains-append_left, Contains-append_right, Contains-append_cases}

module _ {A : Type 0} where
  pub contains_first : (x : A) (xs : List A) → Contains (x ∷ xs) x
  contains_first x xs = (0, omega arith, refl)

  pub contains_later : (x : A) (xs : List A) (q : A) → Contains xs q → Contains (x ∷ xs) q
  contains_later x xs q h = (suc h.0, omega (arith, h.1), h.2)

  pub contains_nothing : (q : A) → Contains [] q → ⊥
  contains_nothing q h = omega (arith, h.1)

  pub contains_cases : (x : A) (xs : List A) (q : A) → Contains (x ∷ xs) q → (x ≡ q) ⊎ Contains xs q
  contains_cases x xs q (zero, l, e) = inl e
  contains_cases x xs q (suc k, l, e) = inr (k, omega (arith, l), e)

  -- one of the lists has it
  abbrev pub Among : List (List A) → A → Type 0
  Among [] q = ⊥
  Among (xs ∷ xss) q = Contains xs q ⊎ Among xss q

  pub among_joined : (xss : List (List A)) (q : A) → Among xss q → Contains (flat_map (λ xs. xs) xss) q
  among_joined [] q h = absurd h
  among_joined (xs ∷ xss) q (inl h) = Contains-append_left xs (flat_map (λ xs. xs) xss) q h
  among_joined (xs ∷ xss) q (inr h) = Contains-append_right xs (flat_map (λ xs. xs) xss) q (among_joined xss q h)

  pub joined_among : (xss : List (List A)) (q : A) → Contains (flat_map (λ xs. xs) xss) q → Among xss q
  joined_among [] q h = contains_nothing q h
  joined_among (xs ∷ xss) q h = elim (Contains-append_cases xs (flat_map (λ xs. xs) xss) q h) [ inl a ↦ inl a | inr b ↦ inr (joined_among xss q b) ]

module _ {A B : Type 0} (f : A → B) where
  pub contains_mapped : (xs : List A) (x : A) → Contains xs x → Contains (map f xs) (f x)
  contains_mapped [] x c = absurd (contains_nothing x c)
  contains_mapped (y ∷ xs) x c = elim (contains_cases y xs x c) [
    | inl e ↦ subst (λ (z : A). Contains (f y ∷ map f xs) (f z)) e (contains_first (f y) (map f xs))
    | inr b ↦ contains_later (f y) (map f xs) (f x) (contains_mapped xs x b)
  ]

  pub mapped_contains : (xs : List A) (z : B) → Contains (map f xs) z → (x : A) × Contains xs x × (f x ≡ z)
  mapped_contains [] z c = absurd (contains_nothing z c)
  mapped_contains (y ∷ xs) z c = elim (contains_cases (f y) (map f xs) z c) [
    | inl e ↦ (y, contains_first y xs, e)
    | inr b ↦ let r = mapped_contains xs z b in (r.0, contains_later y xs r.0 r.1, r.2)
  ]
