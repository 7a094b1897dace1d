-- How many of some paths are known.
use Rattle.std.proofs.Common.{◌≡◌, ℕ, ◌+◌, ◌≤◌, length, List, [], ◌∷◌, Option, Some, None, refl, sym, subst, inl, inr, arith}
use Rattle.gn_imports.specs.Projects.{IsOneOf}

-- what these have, those have
abbrev pub Within : {A : Type 0} → (List ℕ → Option A) → (List ℕ → Option A) → Type 0
Within {A} f g = (path : List ℕ) (y : A) → f path ≡ Some y → g path ≡ Some y

abbrev one_if : {A : Type 0} → Option A → ℕ
one_if None = 0
one_if (Some x) = 1

one_le : {A : Type 0} (x : Option A) → one_if x ≤ 1
one_le None = omega arith
one_le (Some v) = omega arith

one_grows : {A : Type 0} (x y : Option A) → ((v : A) → x ≡ Some v → y ≡ Some v) → one_if x ≤ one_if y
one_grows None y h = omega arith
one_grows (Some v) y h = rw (h v refl) (omega arith)

one_same : {A : Type 0} (x y : Option A) → ((v : A) → x ≡ Some v → y ≡ Some v) → one_if y ≤ one_if x → y ≡ x
one_same None None h c = refl
one_same None (Some u) h c = absurd (omega (arith, c))
one_same (Some v) y h c = h v refl

module _ {A : Type 0} where
  -- how many of these paths are known
  abbrev pub known_of : (List ℕ → Option A) → List (List ℕ) → ℕ
  known_of f [] = 0
  known_of f (p ∷ ps) = one_if (f p) + known_of f ps

  pub known_le : (f : List ℕ → Option A) (ps : List (List ℕ)) → known_of f ps ≤ length ps
  known_le f [] = omega arith
  known_le f (p ∷ ps) = omega (arith, known_le f ps, one_le (f p))

  known_grows : (f g : List ℕ → Option A) → Within f g → (ps : List (List ℕ)) → known_of f ps ≤ known_of g ps
  known_grows f g le [] = omega arith
  known_grows f g le (p ∷ ps) = omega (arith, known_grows f g le ps, one_grows (f p) (g p) (le p))

  -- where no more of these paths are known, the same is known of each
  pub known_same : (f g : List ℕ → Option A) → Within f g → (ps : List (List ℕ)) → known_of g ps ≤ known_of f ps → (p : List ℕ) → IsOneOf p ps → g p ≡ f p
  known_same f g le [] c p h = absurd h
  known_same f g le (x ∷ ps) c p (inl e) =
      subst (λ z. g z ≡ f z) (sym e) (one_same (f x) (g x) (le x) (omega (arith, c, known_grows f g le ps)))
  known_same f g le (x ∷ ps) c p (inr h) = known_same f g le ps (omega (arith, c, one_grows (f x) (g x) (le x))) p h
