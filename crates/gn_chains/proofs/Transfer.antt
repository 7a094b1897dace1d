-- An order of numbers is an order of the labels that have them.
use Rattle.std.proofs.Common.{◌≡◌, ℕ, zero, suc, ◌<◌, List, [], ◌∷◌, length, take, get_or, map, Option, Some, None, option_map, slice_get, Bool, true, false, ◌||◌, refl, sym, ◌∙◌, ap, subst, nat_eq, eq-eqb, eqb-true, true≢false}
use Rattle.std.specs.List.{IsDistinct}
use Rattle.std.proofs.lemmas.Option.{slice_get-map, slice_get-get_or}
use Rattle.gn_labels.specs.declared.label.Label.{Label}
use Rattle.gn_labels.specs.Labels.{is_before}
use Rattle.gn_dependencies.specs.Lists.{same_label, has}
use Rattle.gn_dependencies.specs.Shape.{Shape, near, EndsWithin}
use Rattle.gn_dependencies.specs.Order.{IsReady, IsLeastReady, IsOrderOf}
use Rattle.gn_dependencies.proofs.Same.{own, same}
use Rattle.gn_dependencies.proofs.Merge.{near_within}
use Rattle.gn_dependencies.proofs.OrderLaws.{place_of, has_at, inside}
use Rattle.gn_dependencies.proofs.OrderLaws.{within as place_within}
use Rattle.gn_chains.specs.Numbers.{among, has_some, list_at, one_before, number_before, AreEdges, NumbersEnd}
use Rattle.gn_chains.specs.Counts.{numbers}
use Rattle.gn_chains.proofs.Among.{number_below, below_number, or_true}
use Rattle.gn_chains.proofs.Numbering.{same_place}

nat_same : (a b : ℕ) → nat_eq a b ≡ true → a ≡ b
nat_same a b h = eqb-true a b h

nat_own : (a : ℕ) → nat_eq a a ≡ true
nat_own a = eq-eqb a a refl

take-map : {A B : Type 0} (f : A → B) (k : ℕ) (xs : List A) → take k (map f xs) ≡ map f (take k xs)
take-map f zero xs = refl
take-map f (suc k) [] = refl
take-map f (suc k) (x ∷ xs) = ap (λ z. f x ∷ z) (take-map f k xs)

taken_in : (k : ℕ) (ns : List ℕ) (q : ℕ) → among (take k ns) q ≡ true → among ns q ≡ true
taken_in zero ns q h = absurd (cc h)
taken_in (suc k) [] q h = absurd (cc h)
taken_in (suc k) (x ∷ ns) q h = by (nat_eq q x) (λ i. taken_in k ns q i) h
  where
    by : (b : Bool) → (among (take k ns) q ≡ true → among ns q ≡ true) → (b || among (take k ns) q) ≡ true → (b || among ns q) ≡ true
    by true ih h = refl
    by false ih h = ih h

some_map : {A B : Type 0} (f : A → B) (o : Option A) (y : B) → option_map f o ≡ Some y → (x : A) × (o ≡ Some x) × (f x ≡ y)
some_map f None y e = absurd (cc e)
some_map f (Some x) y e = (x, refl, cc e)

module _ (ws : List Label) (once : IsDistinct same_label ws) (t : Label) where
  -- the label of a number
  abbrev pub at : ℕ → Label
  at n = get_or ws n t

  here : (n : ℕ) → n < length ws → slice_get ws n ≡ Some (at n)
  here n l = slice_get-get_or ws n t l

  one_number : (m n : ℕ) → m < length ws → n < length ws → same_label (at m) (at n) ≡ true → m ≡ n
  one_number m n l k h = same_place ws once m n (at n) (here m l ∙ ap Some (same (at m) (at n) h)) (here n k)

  Below : List ℕ → Type 0
  Below ns = (q : ℕ) → among ns q ≡ true → q < length ws

  pub has_number : (ns : List ℕ) (n : ℕ) → among ns n ≡ true → has (map at ns) (at n) ≡ true
  has_number [] n h = absurd (cc h)
  has_number (x ∷ ns) n h = by (nat_eq n x) refl (λ i. has_number ns n i) h
    where
      by : (b : Bool) → nat_eq n x ≡ b → (among ns n ≡ true → has (map at ns) (at n) ≡ true) → (b || among ns n) ≡ true → has (map at (x ∷ ns)) (at n) ≡ true
      by true e ih h = ap (λ b. b || has (map at ns) (at n)) (ap (λ k. same_label (at n) (at k)) (sym (nat_same n x e)) ∙ own (at n))
      by false e ih h = ap (λ b. same_label (at n) (at x) || b) (ih h) ∙ or_true (same_label (at n) (at x))

  pub number_had : (ns : List ℕ) (n : ℕ) → ((q : ℕ) → among ns q ≡ true → q < length ws) → n < length ws → has (map at ns) (at n) ≡ true → among ns n ≡ true
  number_had [] n b l h = absurd (cc h)
  number_had (x ∷ ns) n b l h = by (same_label (at n) (at x)) refl (λ i. number_had ns n (λ q j. b q (ap (λ c. nat_eq q x || c) j ∙ or_true (nat_eq q x))) l i) h
    where
      by : (c : Bool) → same_label (at n) (at x) ≡ c → (has (map at ns) (at n) ≡ true → among ns n ≡ true) → (c || has (map at ns) (at n)) ≡ true → among (x ∷ ns) n ≡ true
      by true e ih h = ap (λ c. c || among ns n) (ap (nat_eq n) (sym (one_number n x l (b x (ap (λ c. c || among ns x) (nat_own x))) e)) ∙ nat_own n)
      by false e ih h = ap (λ c. nat_eq n x || c) (ih h) ∙ or_true (nat_eq n x)

  module _ (default : List ℕ) (g : Shape) (W : Label → Type 0) (to : (q : Label) → has ws q ≡ true → W q) (back : (q : Label) → W q → has ws q ≡ true)
      (lists : List (List ℕ)) (edges : AreEdges g ws lists) where
    abbrev Numbered : ℕ → Type 0
    Numbered q = among (numbers (length ws)) q ≡ true

    -- the number of a label of W
    number_of : (z : Label) → W z → (j : ℕ) × (j < length ws) × (at j ≡ z)
    number_of z w =
        let p = place_of same_label own same z ws (back z w) in
        let l = place_within ws p.0 z p.1 in
        let e : Some (at p.0) ≡ Some z = sym (here p.0 l) ∙ p.1 in
        (p.0, l, cc e)

    edge_at : (j n : ℕ) → j < length ws → n < length ws → among (list_at lists j) n ≡ has (near g (at j)) (at n)
    edge_at j n l k = edges.each j (at j) (here j l) n ∙ ap (has_some (near g (at j))) (here n k)

    before_at : (m n : ℕ) → m < length ws → n < length ws → number_before default ws m n ≡ is_before default (at m) (at n)
    before_at m n l k = (λ i. one_before default (here m l i) (here n k i))

    module _ (ns : List ℕ) (o : IsOrderOf nat_eq (list_at lists) (number_before default ws) Numbered ns) where
      below_take : (k q : ℕ) → among (take k ns) q ≡ true → q < length ws
      below_take k q h = number_below (length ws) q (inside nat_eq nat_own nat_same (list_at lists) (number_before default ws) Numbered ns o q (taken_in k ns q h))

      placed : (k n : ℕ) → among (take k ns) n ≡ true → has (take k (map at ns)) (at n) ≡ true
      placed k n h = ap (λ (z : List Label). has z (at n)) (take-map at k ns) ∙ has_number (take k ns) n h

      was_placed : (k n : ℕ) → n < length ws → has (take k (map at ns)) (at n) ≡ true → among (take k ns) n ≡ true
      was_placed k n l h = number_had (take k ns) n (below_take k) l (ap (λ (z : List Label). has z (at n)) (sym (take-map at k ns)) ∙ h)

      not_placed : (k n : ℕ) → n < length ws → among (take k ns) n ≡ false → has (take k (map at ns)) (at n) ≡ false
      not_placed k n l h = by (has (take k (map at ns)) (at n)) refl
        where
          by : (b : Bool) → has (take k (map at ns)) (at n) ≡ b → has (take k (map at ns)) (at n) ≡ false
          by false e = e
          by true e = absurd (true≢false (sym (was_placed k n l e) ∙ h))

      was_not_placed : (k n : ℕ) → has (take k (map at ns)) (at n) ≡ false → among (take k ns) n ≡ false
      was_not_placed k n h = by (among (take k ns) n) refl
        where
          by : (b : Bool) → among (take k ns) n ≡ b → among (take k ns) n ≡ false
          by false e = e
          by true e = absurd (true≢false (sym (placed k n e) ∙ h))

      ready_label : (k n : ℕ) → n < length ws → IsReady nat_eq (list_at lists) (number_before default ws) Numbered (take k ns) n
          → IsReady same_label (near g) (is_before default) W (take k (map at ns)) (at n)
      ready_label k n l r = record {
        inside = to (at n) (has_at same_label own same ws n (at n) (here n l));
        unplaced = not_placed k n l r.unplaced;
        after = λ z w h.
            let j = number_of z w in
            let e : among (list_at lists j.0) n ≡ true = edge_at j.0 n j.1 l ∙ ap (λ x. has (near g x) (at n)) j.2 ∙ h in
            ap (has (take k (map at ns))) (sym j.2) ∙ placed k j.0 (r.after j.0 (below_number (length ws) j.0 j.1) e);
      }

      ready_number : (k n : ℕ) → n < length ws → IsReady same_label (near g) (is_before default) W (take k (map at ns)) (at n)
          → IsReady nat_eq (list_at lists) (number_before default ws) Numbered (take k ns) n
      ready_number k n l r = record {
        inside = below_number (length ws) n l;
        unplaced = was_not_placed k n r.unplaced;
        after = λ j w h.
            let m = number_below (length ws) j w in
            was_placed k j m (r.after (at j) (to (at j) (has_at same_label own same ws j (at j) (here j m))) (sym (edge_at j n m l) ∙ h));
      }

      pub labels_ordered : IsOrderOf same_label (near g) (is_before default) W (map at ns)
      labels_ordered = record {
        places = λ k x e.
            let n = some_map at (slice_get ns k) x (sym (slice_get-map at ns k) ∙ e) in
            let p = o.places k n.0 n.1 in
            let l = number_below (length ws) n.0 p.ready.inside in
            subst (λ (z : Label). IsLeastReady same_label (near g) (is_before default) W (take k (map at ns)) z) n.2 (record {
              ready = ready_label k n.0 l p.ready;
              least = λ y r.
                  let m = number_of y r.inside in
                  let s : IsReady same_label (near g) (is_before default) W (take k (map at ns)) (at m.0)
                  = subst (λ (z : Label). IsReady same_label (near g) (is_before default) W (take k (map at ns)) z) (sym m.2) r in
                  ap (λ z. is_before default z (at n.0)) (sym m.2) ∙ sym (before_at m.0 n.0 m.1 l) ∙ p.least m.0 (ready_number k m.0 m.1 s);
            });
        all = λ q w.
            let j = number_of q w in
            ap (has (map at ns)) (sym j.2) ∙ has_number ns j.0 (o.all j.0 (below_number (length ws) j.0 j.1));
      }

    -- paths over numbers are paths of dependencies
    pub numbers_end : (n q : ℕ) → q < length ws → EndsWithin g n (at q) → NumbersEnd (list_at lists) n q
    numbers_end zero q l e = e
    numbers_end (suc n) q l e = λ d h.
        let k = edges.numbered.below q d h in
        numbers_end n d k (e (at d) (near_within g (at q) (at d) (sym (edge_at q d l k) ∙ h)))
