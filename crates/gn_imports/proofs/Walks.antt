-- Links that lead anywhere lead there in at most as many steps as there are paths that have links.
use Rattle.std.proofs.Common.{◌≡◌, ℕ, suc, zero, ◌+◌, ◌≤◌, length, List, [], ◌∷◌, Option, Some, None, refl, sym, ◌∙◌, ap, ◌⊎◌, inl, inr, arith, zero-add, suc-add}
use Rattle.gn_imports.specs.Causes.{Link, led_by, led}
use Rattle.gn_imports.specs.Projects.{IsOneOf, set_at}
use Rattle.gn_imports.proofs.Sets.{set_cases, set_here}

-- whatever has a link is one of these
abbrev pub Listed : (List ℕ → Option Link) → List (List ℕ) → Type 0
Listed next xs = (path : List ℕ) (l : Link) → next path ≡ Some l → IsOneOf path xs

-- the same paths without one of them
without : (q : List ℕ) (xs : List (List ℕ)) → IsOneOf q xs → (ys : List (List ℕ)) × (suc (length ys) ≡ length xs) × ((y : List ℕ) → (q ≡ y → ⊥) → IsOneOf y xs → IsOneOf y ys)
without q [] i = absurd i
without q (x ∷ xs) (inl e) = (xs, refl, kept)
  where
    kept : (y : List ℕ) → (q ≡ y → ⊥) → IsOneOf y (x ∷ xs) → IsOneOf y xs
    kept y d (inl f) = absurd (d (e ∙ sym f))
    kept y d (inr h) = h
without q (x ∷ xs) (inr i) = by (without q xs i)
  where
    by : ((ys : List (List ℕ)) × (suc (length ys) ≡ length xs) × ((y : List ℕ) → (q ≡ y → ⊥) → IsOneOf y xs → IsOneOf y ys))
        → (ys : List (List ℕ)) × (suc (length ys) ≡ length (x ∷ xs)) × ((y : List ℕ) → (q ≡ y → ⊥) → IsOneOf y (x ∷ xs) → IsOneOf y ys)
    by (ys, e, k) = (x ∷ ys, ap suc e, kept)
      where
        kept : (y : List ℕ) → (q ≡ y → ⊥) → IsOneOf y (x ∷ xs) → IsOneOf y (x ∷ ys)
        kept y d (inl f) = inl f
        kept y d (inr h) = inr (k y d h)

led_more : (x : Option Link) (f g : List ℕ → Option (List ℕ)) (k : List ℕ) → ((r : List ℕ) → f r ≡ Some k → g r ≡ Some k) → led_by x f ≡ Some k → led_by x g ≡ Some k
led_more None f g k h e = cc
led_more (Some l) f g k h e = h l.path e

module _ (next : List ℕ → Option Link) where
  -- one step more
  pub led_step : (n : ℕ) (path : List ℕ) (l : Link) (x : Option (List ℕ)) → next path ≡ Some l → led next n l.path ≡ x → led next (suc n) path ≡ x
  led_step n path l x e h = ap (λ y. led_by y (led next n)) e ∙ h

  led_all : (m n : ℕ) (x : Option Link) (r : List ℕ) → ((path : List ℕ) → led next m path ≡ Some r → led next (m + n) path ≡ led next n r) → led_by x (led next m) ≡ Some r → led_by x (led next (m + n)) ≡ led next n r
  led_all m n None r h e = cc
  led_all m n (Some l) r h e = h l.path e

  -- some steps, and then others
  pub led_add : (m n : ℕ) (path r : List ℕ) → led next m path ≡ Some r → led next (m + n) path ≡ led next n r
  led_add zero n path r e = rw zero-add (let f : path ≡ r = cc in ap (led next n) f)
  led_add (suc m) n path r e = rw suc-add (led_all m n (next path) r (λ p. led_add m n p r) e)

  module _ (q : List ℕ) where
    abbrev others : List ℕ → Option Link
    others = set_at q None next

    -- steps that don't begin at q are steps
    back : (n : ℕ) (path k : List ℕ) → led others n path ≡ Some k → led next n path ≡ Some k
    back zero path k e = e
    back (suc n) path k e =
        set_cases q None next path (λ x. led_by x (led others n) ≡ Some k → led_by (next path) (led next n) ≡ Some k)
        (λ same f. cc)
        (λ other f. led_more (next path) (led others n) (led next n) k (λ r. back n r k) f) e

    -- where steps lead, either others lead that don't begin at q, or such behind the link of q
    abbrev pub Avoids : ℕ → List ℕ → List ℕ → Type 0
    Avoids n path k = (led others n path ≡ Some k) ⊎ ((m : ℕ) × (l : Link) × (next q ≡ Some l) × (led others m l.path ≡ Some k))

    avoids_step : (n : ℕ) (path k : List ℕ) (x : Option Link) → next path ≡ x → ((r : List ℕ) → led next n r ≡ Some k → Avoids n r k) → led_by x (led next n) ≡ Some k → Avoids (suc n) path k
    avoids_step n path k None e ih h = cc
    avoids_step n path k (Some l) e ih h = by (ih l.path h)
      where
        by : Avoids n l.path k → Avoids (suc n) path k
        by (inl f) =
            set_cases q None next path (λ x. (led_by x (led others n) ≡ Some k) ⊎ ((m : ℕ) × (l : Link) × (next q ≡ Some l) × (led others m l.path ≡ Some k)))
            (λ same. inr (n, l, ap next same ∙ e, f))
            (λ other. inl (ap (λ x. led_by x (led others n)) e ∙ f))
        by (inr f) = inr f

    avoids : (n : ℕ) (path k : List ℕ) → led next n path ≡ Some k → Avoids n path k
    avoids zero path k e = inl e
    avoids (suc n) path k e = avoids_step n path k (next path) refl (λ r. avoids n r k) e

    others_listed : (xs ys : List (List ℕ)) → ((y : List ℕ) → (q ≡ y → ⊥) → IsOneOf y xs → IsOneOf y ys) → Listed next xs → Listed others ys
    others_listed xs ys keep listed path l e =
        set_cases q None next path (λ x. x ≡ Some l → IsOneOf path ys) (λ same f. cc) (λ other f. keep path other (listed path l f)) e

  none_there : (n : ℕ) (q k : List ℕ) → led (others q) (suc n) q ≡ Some k → ⊥
  none_there n q k e = let f : led (others q) (suc n) q ≡ None = ap (λ x. led_by x (led (others q) n)) (set_here q None next) in cc

-- where links lead, they lead in at most so many steps
abbrev pub Short : ℕ → Type 0
Short d = (next : List ℕ → Option Link) (xs : List (List ℕ)) → length xs ≤ d → Listed next xs → (n : ℕ) (path k : List ℕ) → led next n path ≡ Some k → (m : ℕ) × (m ≤ d) × (led next m path ≡ Some k)

none_listed : (next : List ℕ → Option Link) (xs : List (List ℕ)) → length xs ≤ 0 → Listed next xs → (n : ℕ) (path k : List ℕ) (x : Option Link) → next path ≡ x → led_by x (led next n) ≡ Some k → ⊥
none_listed next xs le listed n path k None e h = cc
none_listed next [] le listed n path k (Some l) e h = listed path l e
none_listed next (x ∷ xs) le listed n path k (Some l) e h = omega (arith, le)

short_by : (d : ℕ) → Short d → (next : List ℕ → Option Link) (xs : List (List ℕ)) → length xs ≤ suc d → Listed next xs → (n : ℕ) (path k : List ℕ) → Avoids next path n path k → (m : ℕ) × (m ≤ suc d) × (led next m path ≡ Some k)
short_by d short next xs le listed zero path k (inl e) = (zero, omega arith, e)
short_by d short next xs le listed (suc n) path k (inl e) = absurd (none_there next n path k e)
short_by d short next xs le listed n path k (inr (m, l, e, h)) =
    let less = without path xs (listed path l e) in
    let found = short (others next path) less.0 (omega (arith, less.1, le)) (others_listed next path xs less.0 less.2 listed) m l.path k h in
    (suc found.0, omega (arith, found.1), led_step next found.0 path l (Some k) e (back next path found.0 l.path k found.2))

short : (d : ℕ) → Short d
short zero next xs le listed zero path k e = (zero, omega arith, e)
short zero next xs le listed (suc n) path k e = absurd (none_listed next xs le listed n path k (next path) refl e)
short (suc d) next xs le listed n path k e = short_by d (short d) next xs le listed n path k (avoids next path n path k e)

-- links that lead anywhere lead there in at most as many steps as there are paths that have links
pub short_walk : (next : List ℕ → Option Link) (xs : List (List ℕ)) → Listed next xs → (n : ℕ) (path k : List ℕ) → led next n path ≡ Some k → (m : ℕ) × (m ≤ length xs) × (led next m path ≡ Some k)
short_walk next xs listed = short (length xs) next xs (omega arith) listed
