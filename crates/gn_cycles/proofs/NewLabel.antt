-- A search by breadth meets a label that it hasn't met before.
use Rattle.std.proofs.Common.{◌≡◌, ◌⊎◌, inl, inr, ℕ, zero, suc, ◌+◌, ◌<◌, ◌≤◌, List, [], ◌∷◌, ◌++◌, length, take, slice_get, Some, Bool, true, false, ◌||◌, refl, sym, ◌∙◌, ap, subst, arith, true≢false, append_assoc, append-nil}
use Rattle.std.proofs.lemmas.Bool.{cases_lt}
use Rattle.std.proofs.lemmas.List.{length-append, take_at}
use Rattle.gn_labels.specs.declared.label.Label.{Label}
use Rattle.gn_dependencies.specs.Lists.{same_label, has}
use Rattle.gn_dependencies.specs.Shape.{Path, end_from}
use Rattle.gn_dependencies.specs.Cycles.{IsPath}
use Rattle.gn_dependencies.proofs.Same.{own, same}
use Rattle.gn_dependencies.proofs.Has.{has_own, or_true}
use Rattle.gn_dependencies.proofs.Kept.{has-append}
use Rattle.gn_dependencies.proofs.At.{left_at, was_at, last_at, one_there, place_cases}
use Rattle.gn_dependencies.proofs.OrderLaws.{at_some, within, place_of}
use Rattle.gn_cycles.specs.Shortest.{StandsBefore, ComesFirst, IsNotBehind}
use Rattle.gn_cycles.specs.Search.{IsWalk, IsMetBy, AreWays, IsSearch}
use Rattle.gn_cycles.proofs.Orders.{first_trans, first_more, first_last, behind_trans, behind_more, behind_longer, behind_length}
use Rattle.gn_cycles.proofs.Walks.{walk_more, walk_path, path_walk, end_more}
use Rattle.gn_cycles.proofs.Steps.{has_left, has_last, has_cases, below_or, apart}

module _ (next : Label → List Label) (t : Label) (labels : List Label) (came : List ℕ) (ways : List Path) (m : ℕ) (seen : List Label) (s : IsSearch next t labels came ways m seen)
    (c : Label) (w : Path) (at : slice_get (t ∷ labels) m ≡ Some c) (way : slice_get ([] ∷ ways) m ≡ Some w)
    (d : Label) (rest : List Label) (e : next c ≡ seen ++ d ∷ rest) (n : has labels d ≡ false) where
  abbrev w' : Path
  w' = w ++ d ∷ []

  few : m ≤ length labels
  few = let l = within (t ∷ labels) m c at in omega (arith, l)

  ends : end_from t w ≡ c
  ends = (s.leads m c w at way).1

  longer : length w < length w'
  longer = omega (arith, length-append w (d ∷ []))

  -- ---- what was met before among the dependencies of c stands before d there
  unseen : has seen d ≡ false
  unseen = by (has seen d) refl
    where
      by : (b : Bool) → has seen d ≡ b → has seen d ≡ false
      by true h = absurd (apart labels d (s.partial d h) n)
      by false h = h

  stands : (x : Label) → has seen x ≡ true → StandsBefore (next c) x d
  stands x h =
      let k : take (length seen) (next c) ≡ seen = ap (take (length seen)) e ∙ take_at seen (d ∷ rest) (length seen) refl in
      (length seen, ap (λ (z : List Label). has z x) k ∙ h, ap (λ (z : List Label). has z d) k ∙ unseen)

  -- ---- the new way comes behind all others
  newest_by : (k : ℕ) (p : Path) → length labels ≡ k → slice_get ([] ∷ ways) k ≡ Some p → ComesFirst next t p w'
  newest_by k p l a = elim (cases_lt m k) [
    | inl less ↦ older k less l a
    | inr more ↦
        let i : k ≡ m = omega (arith, l, more, few) in
        let is : w ≡ p = one_there w p (sym way ∙ ap (slice_get ([] ∷ ways)) (sym i) ∙ a) in
        subst (λ (z : Path). ComesFirst next t z w') is (inl longer)
  ]
    where
      older : (k : ℕ) → m < k → length labels ≡ k → slice_get ([] ∷ ways) k ≡ Some p → ComesFirst next t p w'
      older zero less l a = absurd (omega (arith, less))
      older (suc k) less l a =
          let x = at_some labels k (omega (arith, l)) in
          let r = s.known.each k x.0 x.1 in
          let is : r.way ++ x.0 ∷ [] ≡ p = one_there (r.way ++ x.0 ∷ []) p (sym r.own ∙ a) in
          let first : ComesFirst next t (r.way ++ x.0 ∷ []) w' = elim (s.done k r.source x.0 x.1 r.came_is) [
            | inl b ↦ first_more next t r.way w x.0 d (s.ordered r.source m r.way w b r.way_is way)
            | inr b ↦
                let one : w ≡ r.way = one_there w r.way (sym way ∙ ap (slice_get ([] ∷ ways)) (sym b.0) ∙ r.way_is) in
                subst (λ (z : Path). ComesFirst next t (z ++ x.0 ∷ []) w') one
                (first_last next t w x.0 d (subst (λ (z : Label). StandsBefore (next z) x.0 d) (sym ends) (stands x.0 b.1)))
          ] in
          subst (λ (z : Path). ComesFirst next t z w') is first

  newest : (i : ℕ) (p : Path) → i < suc (length ways) → slice_get ([] ∷ ways) i ≡ Some p → ComesFirst next t p w'
  newest i p l a = elim (below_or i (length ways) (omega (arith, l))) [
    | inl less ↦
        let q = at_some ([] ∷ ways) (length ways) (omega arith) in
        first_trans next t p q.0 w' (s.ordered i (length ways) p q.0 less a q.1) (newest_by (length ways) q.0 (sym s.known.sized) q.1)
    | inr is ↦ newest_by (length ways) p (sym s.known.sized) (ap (slice_get ([] ∷ ways)) (sym is) ∙ a)
  ]

  -- ---- and is the first that leads to d
  abbrev Outside : Path → Type 0
  Outside q = (length w + 1 < length q) ⊎ ((p : Path) × (x : Label) × (q ≡ p ++ x ∷ []) × IsNotBehind next t w p)

  abbrev Inside : Path → Type 0
  Inside q = (q ≡ []) ⊎ (has labels (end_from t q) ≡ true)

  outside_length : (q : Path) → Outside q → length w < length q
  outside_length q (inl l) = omega (arith, l)
  outside_length q (inr (p, x, is, b)) = omega (arith, behind_length next t w p b, length-append p (x ∷ []), ap length is)

  abbrev IsFrom : Path → ℕ → Path → Type 0
  IsFrom q j p = (slice_get (t ∷ labels) j ≡ Some (end_from t q)) × ((slice_get ([] ∷ ways) j ≡ Some p) × IsNotBehind next t p q)

  from : (q : Path) → IsWalk next t q → Inside q → (j : ℕ) × (p : Path) × IsFrom q j p
  from [] h i = (0, [], (refl, (refl, inl refl)))
  from (x ∷ q) h (inl i) = absurd (cc i)
  from (x ∷ q) h (inr i) =
      let k = place_of same_label own same (end_from t (x ∷ q)) labels i in
      let p = at_some ways k.0 (omega (arith, s.known.sized, within labels k.0 (end_from t (x ∷ q)) k.1)) in
      (suc k.0, p.0, (k.1, (p.1, s.first k.0 (end_from t (x ∷ q)) p.0 k.1 p.1 (x ∷ q) (walk_path next t x q h) refl)))

  onward : (q : Path) (x : Label) → IsWalk next t q → has (next (end_from t q)) x ≡ true → Inside q ⊎ Outside q → Inside (q ++ x ∷ []) ⊎ Outside (q ++ x ∷ [])
  onward q x h i r = by (has labels x) refl r
    where
      by : (b : Bool) → has labels x ≡ b → Inside q ⊎ Outside q → Inside (q ++ x ∷ []) ⊎ Outside (q ++ x ∷ [])
      by true f r = inl (inr (ap (has labels) (end_more t x q) ∙ f))
      by false f (inr o) = inr (inl (omega (arith, outside_length q o, length-append q (x ∷ []))))
      by false f (inl k) = let g = from q h k in at_place g.0 g.1 g.2
        where
          at_place : (j : ℕ) (p : Path) → IsFrom q j p → Inside (q ++ x ∷ []) ⊎ Outside (q ++ x ∷ [])
          at_place j p g = elim (cases_lt j m) [
            | inl l ↦ absurd (apart labels x (s.closed j (end_from t q) l g.0 x i) f)
            | inr l ↦ elim (cases_lt m j) [
              | inl k ↦ inr (inr (q, x, refl, behind_trans next t w p q (inr (s.ordered m j w p k way g.1.0)) g.1.1))
              | inr k ↦
                  let same_number : m ≡ j = omega (arith, l, k) in
                  let one : w ≡ p = one_there w p (sym way ∙ ap (slice_get ([] ∷ ways)) same_number ∙ g.1.0) in
                  inr (inr (q, x, refl, behind_trans next t w p q (inl one) g.1.1))
            ]
          ]

  along : (p q : Path) → IsWalk next t p → IsWalk next (end_from t p) q → Inside p ⊎ Outside p → Inside (p ++ q) ⊎ Outside (p ++ q)
  along p [] h i r = subst (λ (z : Path). Inside z ⊎ Outside z) (sym (append-nil p)) r
  along p (x ∷ q) h i r =
      subst (λ (z : Path). Inside z ⊎ Outside z) (append_assoc p (x ∷ []) q)
      (along (p ++ x ∷ []) q (walk_more next t x p h i.0) (subst (λ (z : Label). IsWalk next z q) (sym (end_more t x p)) i.1) (onward p x h i.0 r))

  is_first : (q : Path) → IsPath next t q → end_from t q ≡ d → IsNotBehind next t w' q
  is_first q h f = by (along [] q tt (path_walk next t q h) (inl (inl refl)))
    where
      by : Inside q ⊎ Outside q → IsNotBehind next t w' q
      by (inl (inl i)) = absurd (subst (λ (z : Path). IsPath next t z) i h)
      by (inl (inr i)) = absurd (apart labels d (ap (has labels) (sym f) ∙ i) n)
      by (inr (inl l)) = behind_longer next t w' q (omega (arith, l, length-append w (d ∷ [])))
      by (inr (inr (p, x, is, b))) =
          let last : d ≡ x = sym f ∙ ap (end_from t) is ∙ end_more t x p in
          let all : q ≡ p ++ d ∷ [] = is ∙ ap (λ (z : Label). p ++ z ∷ []) (sym last) in
          subst (λ (z : Path). IsNotBehind next t w' z) (sym all) (behind_more next t w p d b)

  -- ---- the state with one label more
  is_next : has (next (end_from t w)) d ≡ true
  is_next = ap (λ (z : Label). has (next z) d) ends ∙ ap (λ (z : List Label). has z d) e ∙ has-append seen (d ∷ rest) d ∙ ap (λ b. has seen d || b) (has_own d rest) ∙ or_true (has seen d)

  known : AreWays (labels ++ d ∷ []) (came ++ m ∷ []) (ways ++ w' ∷ [])
  known = record {
    sized = omega (arith, s.known.sized, length-append labels (d ∷ []), length-append ways (w' ∷ []));
    matched = omega (arith, s.known.matched, length-append labels (d ∷ []), length-append came (m ∷ []));
    each = λ k x a. elim (place_cases labels d x k a) [
      | inl i ↦ let r = s.known.each k x i.1 in record {
        source = r.source;
        way = r.way;
        came_is = left_at came (m ∷ []) k r.source r.came_is;
        earlier = r.earlier;
        way_is = left_at ([] ∷ ways) (w' ∷ []) r.source r.way r.way_is;
        own = left_at ways (w' ∷ []) k (r.way ++ x ∷ []) r.own;
      }
      | inr i ↦ record {
        source = m;
        way = w;
        came_is = ap (slice_get (came ++ m ∷ [])) (i.0 ∙ sym s.known.matched) ∙ last_at came m;
        earlier = let l = i.0 in omega (arith, few, l);
        way_is = left_at ([] ∷ ways) (w' ∷ []) m w way;
        own = ap (slice_get (ways ++ w' ∷ [])) (i.0 ∙ sym s.known.sized) ∙ last_at ways w' ∙ ap (λ (z : Label). Some (w ++ z ∷ [])) i.1;
      }
    ];
  }

  pub another : IsSearch next t (labels ++ d ∷ []) (came ++ m ∷ []) (ways ++ w' ∷ []) m (seen ++ d ∷ [])
  another = record {
    known = known;
    done = λ k j x a b. elim (place_cases labels d x k a) [
      | inl i ↦ elim (s.done k j x i.1 (was_at came (m ∷ []) k j (let l = i.0 in omega (arith, l, s.known.matched)) b)) [
        | inl l ↦ inl l
        | inr r ↦ inr (r.0, has_left seen (d ∷ []) x r.1)
      ]
      | inr i ↦ inr (
        one_there j m (sym b ∙ ap (slice_get (came ++ m ∷ [])) (i.0 ∙ sym s.known.matched) ∙ last_at came m),
        ap (has (seen ++ d ∷ [])) (sym i.1) ∙ has_last seen d,
      )
    ];
    ordered = λ i j p q l a b. elim (place_cases ([] ∷ ways) w' q j b) [
      | inl k ↦ s.ordered i j p q l (was_at ([] ∷ ways) (w' ∷ []) i p (let h = k.0 in omega (arith, l, h)) a) k.1
      | inr k ↦
          let h : i < suc (length ways) = let g = k.0 in omega (arith, l, g) in
          subst (λ (z : Path). ComesFirst next t p z) k.1 (newest i p h (was_at ([] ∷ ways) (w' ∷ []) i p h a))
    ];
    leads = λ j x p a b. elim (place_cases (t ∷ labels) d x j a) [
      | inl k ↦ s.leads j x p k.1 (was_at ([] ∷ ways) (w' ∷ []) j p (let h = k.0 in omega (arith, h, s.known.sized)) b)
      | inr k ↦
          let h : j ≡ length ([] ∷ ways) = let g = k.0 in omega (arith, g, s.known.sized) in
          let is : w' ≡ p = one_there w' p (sym (last_at ([] ∷ ways) w') ∙ ap (slice_get ([] ∷ (ways ++ w' ∷ []))) (sym h) ∙ b) in
          (subst (λ (z : Path). IsWalk next t z) is (walk_more next t d w (s.leads m c w at way).0 is_next), ap (end_from t) (sym is) ∙ end_more t d w ∙ k.1)
    ];
    first = λ k x p a b q h f. elim (place_cases labels d x k a) [
      | inl i ↦ s.first k x p i.1 (was_at ways (w' ∷ []) k p (let l = i.0 in omega (arith, l, s.known.sized)) b) q h f
      | inr i ↦
          let is : w' ≡ p = one_there w' p (sym (last_at ways w') ∙ ap (slice_get (ways ++ w' ∷ [])) (s.known.sized ∙ sym i.0) ∙ b) in
          subst (λ (z : Path). IsNotBehind next t z q) is (is_first q h (f ∙ sym i.1))
    ];
    closed = λ j x l a y h. has_left labels (d ∷ []) y (s.closed j x l (was_at (t ∷ labels) (d ∷ []) j x (omega (arith, l, few)) a) y h);
    partial = λ x h. elim (has_cases seen d x h) [
      | inl i ↦ has_left labels (d ∷ []) x (s.partial x i)
      | inr i ↦ ap (has (labels ++ d ∷ [])) i ∙ has_last labels d
    ];
  }
