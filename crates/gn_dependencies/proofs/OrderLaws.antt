-- What holds of an order by who depends on whom.
use Rattle.std.proofs.Common.{◌≡◌, ℕ, zero, suc, ◌<◌, ◌≤◌, List, [], ◌∷◌, ◌++◌, length, take, slice_get, Some, Bool, true, false, ◌||◌, refl, sym, ◌∙◌, ap, subst, inl, inr, arith}
use Rattle.std.specs.List.{list_any}
use Rattle.std.proofs.lemmas.Bool.{cases_lt}
use Rattle.std.proofs.lemmas.List.{take_all}
use Rattle.gn_dependencies.specs.Order.{IsReady, IsLeastReady, IsOrderOf, Over, edge, before}

module _ {A : Type 0} where
  -- ---- places
  pub taken : (xs : List A) (k j : ℕ) (q : A) → slice_get (take k xs) j ≡ Some q → (j < k) × (slice_get xs j ≡ Some q)
  taken [] zero j q e = absurd (cc e)
  taken [] (suc k) j q e = absurd (cc e)
  taken (x ∷ xs) zero j q e = absurd (cc e)
  taken (x ∷ xs) (suc k) zero q e = (omega arith, e)
  taken (x ∷ xs) (suc k) (suc j) q e = let r = taken xs k j q e in (omega (arith, r.0), r.1)

  pub take_next : (xs : List A) (k : ℕ) (x : A) → slice_get xs k ≡ Some x → take (suc k) xs ≡ take k xs ++ x ∷ []
  take_next [] k x e = absurd (cc e)
  take_next (y ∷ xs) zero x e = let s : y ≡ x = cc e in ap (λ z. z ∷ []) s
  take_next (y ∷ xs) (suc k) x e = ap (λ (z : List A). y ∷ z) (take_next xs k x e)

  pub at_some : (xs : List A) (k : ℕ) → k < length xs → (x : A) × (slice_get xs k ≡ Some x)
  at_some [] k l = absurd (omega (arith, l))
  at_some (x ∷ xs) zero l = (x, refl)
  at_some (x ∷ xs) (suc k) l = at_some xs k (omega (arith, l))

  pub within : (xs : List A) (k : ℕ) (x : A) → slice_get xs k ≡ Some x → k < length xs
  within [] k x e = absurd (cc e)
  within (y ∷ xs) zero x e = omega arith
  within (y ∷ xs) (suc k) x e = omega (arith, within xs k x e)

module _ {A : Type 0} (same : A → A → Bool) (own : (a : A) → same a a ≡ true) (is : (a b : A) → same a b ≡ true → a ≡ b) where
  or_true : (b : Bool) → (b || true) ≡ true
  or_true true = refl
  or_true false = refl

  pub place_of : (q : A) (xs : List A) → list_any (same q) xs ≡ true → (k : ℕ) × (slice_get xs k ≡ Some q)
  place_of q [] h = absurd (cc h)
  place_of q (x ∷ xs) h = go (same q x) refl (λ i. place_of q xs i) h
    where
      go : (b : Bool) → same q x ≡ b → (list_any (same q) xs ≡ true → (k : ℕ) × (slice_get xs k ≡ Some q)) → (b || list_any (same q) xs) ≡ true → (k : ℕ) × (slice_get (x ∷ xs) k ≡ Some q)
      go true e ih i = (0, ap Some (sym (is q x e)))
      go false e ih i = let r = ih i in (suc r.0, r.1)

  pub has_at : (xs : List A) (k : ℕ) (q : A) → slice_get xs k ≡ Some q → list_any (same q) xs ≡ true
  has_at [] k q e = absurd (cc e)
  has_at (x ∷ xs) zero q e = let s : x ≡ q = cc e in ap (λ b. b || list_any (same q) xs) (ap (same q) s ∙ own q)
  has_at (x ∷ xs) (suc k) q e = ap (λ b. same q x || b) (has_at xs k q e) ∙ or_true (same q x)

  pub take_in : (xs : List A) (k j : ℕ) (q : A) → j ≤ k → list_any (same q) (take j xs) ≡ true → list_any (same q) (take k xs) ≡ true
  take_in [] zero j q l h = absurd (none j h)
    where
      none : (j : ℕ) → list_any (same q) (take j []) ≡ true → ⊥
      none zero h = cc h
      none (suc j) h = cc h
  take_in [] (suc k) j q l h = absurd (none j h)
    where
      none : (j : ℕ) → list_any (same q) (take j []) ≡ true → ⊥
      none zero h = cc h
      none (suc j) h = cc h
  take_in (x ∷ xs) k zero q l h = absurd (cc h)
  take_in (x ∷ xs) zero (suc j) q l h = absurd (omega (arith, l))
  take_in (x ∷ xs) (suc k) (suc j) q l h = go (same q x) (λ i. take_in xs k j q (omega (arith, l)) i) h
    where
      go : (b : Bool) → (list_any (same q) (take j xs) ≡ true → list_any (same q) (take k xs) ≡ true) → (b || list_any (same q) (take j xs)) ≡ true → (b || list_any (same q) (take k xs)) ≡ true
      go true ih i = refl
      go false ih i = ih i

  -- ---- other words for the same things
  module _ (near near' : A → List A) (comes_first : A → A → Bool) (V W : A → Type 0) (to : (q : A) → V q → W q) (back : (q : A) → W q → V q) (agree : (q : A) → V q → near q ≡ near' q) where
    ready_same : (placed : List A) (y : A) → IsReady same near comes_first V placed y → IsReady same near' comes_first W placed y
    ready_same placed y r = record {
      inside = to y r.inside;
      unplaced = r.unplaced;
      after = λ z w h. r.after z (back z w) (ap (list_any (same y)) (agree z (back z w)) ∙ h);
    }

    ready_back : (placed : List A) (y : A) → IsReady same near' comes_first W placed y → IsReady same near comes_first V placed y
    ready_back placed y r = record {
      inside = back y r.inside;
      unplaced = r.unplaced;
      after = λ z w h. r.after z (to z w) (ap (list_any (same y)) (sym (agree z w)) ∙ h);
    }

    -- an order of these is one of those, where they are the same and depend on the same
    pub order_same : (xs : List A) → IsOrderOf same near comes_first V xs → IsOrderOf same near' comes_first W xs
    order_same xs o = record {
      places = λ k x e. let p = o.places k x e in record {
        ready = ready_same (take k xs) x p.ready;
        least = λ y r. p.least y (ready_back (take k xs) y r);
      };
      all = λ q w. o.all q (back q w);
    }

  module _ (near : A → List A) (comes_first : A → A → Bool) (W : A → Type 0) (xs : List A) (o : IsOrderOf same near comes_first W xs) where
    -- each stands before every other to which a path over W leads from it
    pub stands_before : (z x : A) → Over same near comes_first W z x → (k : ℕ) → slice_get xs k ≡ Some x → list_any (same z) (take k xs) ≡ true
    stands_before z x (edge z' x' w v h) k e = (o.places k x e).ready.after z w h
    stands_before z x (before z' y x' w h p) k e =
        let j = place_of y (take k xs) (stands_before y x p k e) in
        let t = taken xs k j.0 y j.1 in
        take_in xs k j.0 z (omega (arith, t.0)) ((o.places j.0 y t.1).ready.after z w h)

    pub inside : (q : A) → list_any (same q) xs ≡ true → W q
    inside q h = let k = place_of q xs h in (o.places k.0 q k.1).ready.inside

  -- two orders of the same are one list
  module _ (near : A → List A) (comes_first : A → A → Bool) (total : (a b : A) → comes_first a b ≡ false → comes_first b a ≡ false → a ≡ b) (W : A → Type 0) where
    same_least : (ps qs : List A) (x y : A) → ps ≡ qs → IsLeastReady same near comes_first W ps x → IsLeastReady same near comes_first W qs y → x ≡ y
    same_least ps qs x y e a b =
        let a' : IsLeastReady same near comes_first W qs x = subst (λ (z : List A). IsLeastReady same near comes_first W z x) e a in
        total x y (b.least x a'.ready) (a'.least y b.ready)

    same_take : (xs ys : List A) → IsOrderOf same near comes_first W xs → IsOrderOf same near comes_first W ys → (k : ℕ) → k ≤ length xs → k ≤ length ys → take k xs ≡ take k ys
    same_take xs ys a b zero l m = refl
    same_take xs ys a b (suc k) l m =
        let e = same_take xs ys a b k (omega (arith, l)) (omega (arith, m)) in
        let x = at_some xs k (omega (arith, l)) in
        let y = at_some ys k (omega (arith, m)) in
        let s = same_least (take k xs) (take k ys) x.0 y.0 e (a.places k x.0 x.1) (b.places k y.0 y.1) in
        take_next xs k x.0 x.1 ∙ (λ i. e i ++ s i ∷ []) ∙ sym (take_next ys k y.0 y.1)

    no_longer : (xs ys : List A) → IsOrderOf same near comes_first W xs → IsOrderOf same near comes_first W ys → length xs < length ys → ⊥
    no_longer xs ys a b l =
        let y = at_some ys (length xs) l in
        let p = (b.places (length xs) y.0 y.1).ready in
        let e : take (length xs) xs ≡ take (length xs) ys = same_take xs ys a b (length xs) (omega arith) (omega (arith, l)) in
        let w : list_any (same y.0) xs ≡ true = a.all y.0 p.inside in
        let t : take (length xs) xs ≡ xs = take_all (length xs) xs (omega arith) in
        let v : list_any (same y.0) xs ≡ false = ap (list_any (same y.0)) (sym t ∙ e) ∙ p.unplaced in
        cc (w, v)

    pub order_unique : (xs ys : List A) → IsOrderOf same near comes_first W xs → IsOrderOf same near comes_first W ys → xs ≡ ys
    order_unique xs ys a b = elim (cases_lt (length xs) (length ys)) [
      | inl l ↦ absurd (no_longer xs ys a b l)
      | inr m ↦ elim (cases_lt (length ys) (length xs)) [
        | inl l ↦ absurd (no_longer ys xs b a l)
        | inr n ↦ sym (take_all (length xs) xs (omega arith)) ∙ same_take xs ys a b (length xs) (omega arith) (omega (arith, n)) ∙ take_all (length xs) ys (omega (arith, m))
      ]
    ]
