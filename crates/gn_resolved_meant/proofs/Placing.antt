-- What is placed turn by turn stands in the order of dependencies.
use Rattle.std.proofs.Common.{◌≡◌, ◌↔◌, ◌⊎◌, inl, inr, ℕ, zero, suc, ◌+◌, ◌<◌, ◌≤◌, List, [], ◌∷◌, ◌++◌, Option, Some, None, length, take, filter, slice_get, Bool, true, false, not, ◌||◌, ◌&&◌, refl, sym, ◌∙◌, ap, subst, arith}
use Rattle.std.specs.List.{Contains, IsDistinct, cons_option}
use Rattle.std.specs.List.Sorted.{IsStrictlySortedBy}
use Rattle.std.proofs.lemmas.Bool.{and_parts, or_parts, or_cases, not-true}
use Rattle.std.proofs.lemmas.List.{append-nil, take-append-le, length-append}
use Rattle.std.proofs.lemmas.Map.Keys.{IsDistinct-cons, IsDistinct-push}
use Rattle.std.proofs.lemmas.Map.Made.{length-le_from_is_member}
use Rattle.std.proofs.lemmas.Map.Views.{Contains-from_any, list_any-from_Contains}
use Rattle.std.proofs.Math.Seq.{take-append_seam}
use Rattle.gn_labels.specs.declared.label.Label.{Label}
use Rattle.gn_labels.specs.Labels.{label_order, is_before}
use Rattle.gn_dependencies.specs.Lists.{same_label, has}
use Rattle.gn_dependencies.specs.Shape.{Shape, Path, near, EndsWithin}
use Rattle.gn_dependencies.specs.Order.{IsReady, IsLeastReady, IsOrderOf}
use Rattle.gn_dependencies.proofs.Same.{own, same, label_equiv}
use Rattle.gn_dependencies.proofs.Has.{has_own}
use Rattle.gn_dependencies.proofs.Merge.{near_within}
use Rattle.gn_dependencies.proofs.OrderLaws.{place_of}
use Rattle.gn_dependencies.proofs.At.{place_cases}
use Rattle.gn_cycles.specs.Search.{IsWalk}
use Rattle.gn_graph_meant.specs.Computed.{in_order}
use Rattle.gn_graph_meant.proofs.Members.{contains_first, contains_cases, contains_nothing}
use Rattle.gn_graph_meant.proofs.InOrder.{in_order_rises, comes_behind}
use Rattle.gn_graph_meant.proofs.Orders.{HasNoTies, not_before, not_before_itself}
use Rattle.gn_graph_meant.proofs.Reaching.{both_true, has_passed, passed_has}
use Rattle.gn_graph_meant.proofs.Shortening.{apart}
use Rattle.gn_resolved_meant.specs.Inherited.{waits, is_ready, next_in, placed_in}
use Rattle.gn_resolved_meant.proofs.Sorted.{in_order_has}
use Rattle.gn_resolved_meant.proofs.Members.{has_later}

-- a walk has fewer edges than the bound of paths
walk_bounded : (g : Shape) (n : ℕ) (t : Label) (p : Path) → EndsWithin g n t → IsWalk (near g) t p → length p < n
walk_bounded g zero t p ends w = absurd ends
walk_bounded g (suc n) t [] ends w = omega arith
walk_bounded g (suc n) t (d ∷ p) ends w = omega (arith, walk_bounded g n d p (ends d (near_within g t d w.0)) w.1)

placed_if : (a b : Bool) → a ≡ true → (a && not b) ≡ false → b ≡ true
placed_if a true h k = refl
placed_if true false h k = absurd (cc k)
placed_if false false h k = absurd (cc h)

module _ (g : Shape) (placed : List Label) (y : Label) where
  -- who waits, waits for one that isn't placed
  waits_for : (ws : List Label) → waits g ws placed y ≡ true → (z : Label) × (has ws z ≡ true) × (has (near g z) y ≡ true) × (has placed z ≡ false)
  waits_for [] h = absurd (cc h)
  waits_for (z ∷ ws) h = elim (or_cases (has (near g z) y && not (has placed z)) (waits g ws placed y) h) [
    | inl a ↦ let k = and_parts (has (near g z) y) (not (has placed z)) a in (z, has_own z ws, k.0, not-true (has placed z) k.1)
    | inr b ↦ let r = waits_for ws b in (r.0, has_later z ws r.0 r.1, r.2, r.3)
  ]

  -- who doesn't, has all dependents placed
  waits_not : (z : Label) (ws : List Label) → has ws z ≡ true → has (near g z) y ≡ true → waits g ws placed y ≡ false → has placed z ≡ true
  waits_not z [] h n w = absurd (cc h)
  waits_not z (x ∷ ws) h n w =
      let parts = or_parts (has (near g x) y && not (has placed x)) (waits g ws placed y) w in
      go (same_label z x) refl h parts.0 (λ i. waits_not z ws i n parts.1)
    where
      go : (b : Bool) → same_label z x ≡ b → (b || has ws z) ≡ true → (has (near g x) y && not (has placed x)) ≡ false → (has ws z ≡ true → has placed z ≡ true) → has placed z ≡ true
      go true e i first others =
          ap (has placed) (same z x e) ∙ placed_if (has (near g x) y) (has placed x) (ap (λ (c : Label). has (near g c) y) (sym (same z x e)) ∙ n) first
      go false e i first others = others i

module _ (no_ties : HasNoTies) (default : List ℕ) (g : Shape) (W : Label → Type 0) (walked : List Label) (sound : (q : Label) → has walked q ≡ true → W q)
    (whole : (q : Label) → W q → has walked q ≡ true) where
  abbrev Ready : List Label → Label → Type 0
  Ready placed y = IsReady same_label (near g) (is_before default) W placed y

  abbrev Least : List Label → Label → Type 0
  Least placed y = IsLeastReady same_label (near g) (is_before default) W placed y

  -- ---- the next
  to_ready : (placed : List Label) (y : Label) → has walked y ≡ true → is_ready g walked placed y ≡ true → Ready placed y
  to_ready placed y h r =
      let k = and_parts (not (has placed y)) (not (waits g walked placed y)) r in record {
        inside = sound y h;
        unplaced = not-true (has placed y) k.0;
        after = λ z w n. waits_not g placed y z walked (whole z w) n (not-true (waits g walked placed y) k.1);
      }

  from_ready : (placed : List Label) (y : Label) → Ready placed y → is_ready g walked placed y ≡ true
  from_ready placed y r = both_true (not (has placed y)) (not (waits g walked placed y)) (ap not r.unplaced) (go (waits g walked placed y) refl)
    where
      go : (b : Bool) → waits g walked placed y ≡ b → not b ≡ true
      go true e = let z = waits_for g placed y walked e in let h = r.after z.0 (sound z.0 z.1) z.2 in let k = z.3 in cc (h, k)
      go false e = refl

  abbrev candidates : List Label → List Label
  candidates placed = in_order (label_order default) (filter (is_ready g walked placed) walked)

  candidates_ready : (placed : List Label) (y : Label) → Contains (candidates placed) y ↔ Ready placed y
  candidates_ready placed y =
      let i = in_order_has no_ties default (filter (is_ready g walked placed) walked) y in (
        (λ c. let k = passed_has (is_ready g walked placed) walked y (i.0 (list_any-from_Contains label_equiv y (candidates placed) c)) in to_ready placed y k.0 k.1),
        (λ r. Contains-from_any same y (candidates placed) (i.1 (has_passed (is_ready g walked placed) walked y (whole y r.inside) (from_ready placed y r)))),
      )

  abbrev IsNext : List Label → Option Label → Type 0
  IsNext placed None = (y : Label) → Ready placed y → ⊥
  IsNext placed (Some x) = Least placed x

  first_of : (placed ys : List Label) → IsStrictlySortedBy (label_order default) ys → ((y : Label) → Contains ys y ↔ Ready placed y) → IsNext placed (slice_get ys 0)
  first_of placed [] s each = λ y r. contains_nothing y ((each y).1 r)
  first_of placed (x ∷ ys) s each = record {
    ready = (each x).0 (contains_first x ys);
    least = λ y r. elim (contains_cases x ys y ((each y).1 r)) [
      | inl e ↦ subst (λ (z : Label). is_before default z x ≡ false) e (not_before_itself default x)
      | inr b ↦ not_before default x y (comes_behind (label_order default) x ys s y b)
    ];
  }

  next_is : (placed : List Label) → IsNext placed (next_in default g walked placed)
  next_is placed = first_of placed (candidates placed) (in_order_rises (label_order default) (filter (is_ready g walked placed) walked)) (candidates_ready placed)

  -- ---- what is placed
  abbrev ArePlaced : List Label → Type 0
  ArePlaced placed = (k : ℕ) (x : Label) → slice_get placed k ≡ Some x → Least (take k placed) x

  one_more : (placed : List Label) (x : Label) → ArePlaced placed → Least placed x → ArePlaced (placed ++ x ∷ [])
  one_more placed x are least k y e = elim (place_cases placed x y k e) [
    | inl a ↦ subst (λ (z : List Label). Least z y) (sym (take-append-le k placed (x ∷ []) (omega (arith, a.0)))) (are k y a.1)
    | inr b ↦
        let all : take k (placed ++ x ∷ []) ≡ placed = ap (λ j. take j (placed ++ x ∷ [])) b.0 ∙ take-append_seam placed (x ∷ []) in
        subst (λ (z : List Label). Least z y) (sym all) (subst (Least placed) b.1 least)
  ]

  placed_inside : (placed : List Label) → ArePlaced placed → (q : Label) → has placed q ≡ true → W q
  placed_inside placed are q h = let k = place_of same_label own same q placed h in (are k.0 q k.1).ready.inside

  -- as many as there are walked ones are all
  full : (placed : List Label) → ArePlaced placed → IsDistinct same_label placed → length placed ≡ length walked → (q : Label) → W q → has placed q ≡ true
  full placed are once e q w = go (has placed q) refl
    where
      among : (x : Label) (b : Bool) → same_label x q ≡ b → (b || has placed x) ≡ true → has walked x ≡ true
      among x true s i = ap (has walked) (same x q s) ∙ whole q w
      among x false s i = whole x (placed_inside placed are x i)

      go : (b : Bool) → has placed q ≡ b → b ≡ true
      go true h = refl
      go false h =
          let l : length (q ∷ placed) ≤ length walked =
          length-le_from_is_member label_equiv (q ∷ placed) walked (IsDistinct-cons same_label q placed (apart q placed h) once) (λ x i. among x (same_label x q) refl i) in
          absurd (omega (arith, l, e))

  -- ---- where none is ready all are placed: else dependents that aren't placed lead back without end
  module _ (bound : ℕ) (ends : (q : Label) → W q → EndsWithin g bound q) (placed : List Label) (none : (y : Label) → Ready placed y → ⊥) where
    dependent : (y : Label) → W y → has placed y ≡ false → (z : Label) × (has walked z ≡ true) × (has (near g z) y ≡ true) × (has placed z ≡ false)
    dependent y w u = go (waits g walked placed y) refl
      where
        go : (b : Bool) → waits g walked placed y ≡ b → (z : Label) × (has walked z ≡ true) × (has (near g z) y ≡ true) × (has placed z ≡ false)
        go true e = waits_for g placed y walked e
        go false e = absurd (none y (to_ready placed y (whole y w) (both_true (not (has placed y)) (not (waits g walked placed y)) (ap not u) (ap not e))))

    back : (y : Label) → W y → has placed y ≡ false → (n : ℕ) → (z : Label) × W z × (has placed z ≡ false) × ((p : Path) × IsWalk (near g) z p × (length p ≡ n))
    back y w u zero = (y, w, u, ([], tt, refl))
    back y w u (suc n) = on (back y w u n)
      where
        on : ((z : Label) × W z × (has placed z ≡ false) × ((p : Path) × IsWalk (near g) z p × (length p ≡ n)))
            → (z : Label) × W z × (has placed z ≡ false) × ((p : Path) × IsWalk (near g) z p × (length p ≡ suc n))
        on (z, v, a, (p, i, l)) = let r = dependent z v a in (r.0, sound r.0 r.1, r.3, (z ∷ p, (r.2, i), ap suc l))

    all_placed : (y : Label) → W y → has placed y ≡ true
    all_placed y w = go (has placed y) refl
      where
        never : ((z : Label) × W z × (has placed z ≡ false) × ((p : Path) × IsWalk (near g) z p × (length p ≡ bound))) → ⊥
        never (z, v, a, (p, i, l)) = let m : length p < bound = walk_bounded g bound z p (ends z v) i in omega (arith, l, m)

        go : (b : Bool) → has placed y ≡ b → b ≡ true
        go true h = refl
        go false h = absurd (never (back y w h bound))

  module _ (bound : ℕ) (ends : (q : Label) → W q → EndsWithin g bound q) where
    abbrev IsAll : List Label → Type 0
    IsAll xs = (q : Label) → W q → has xs q ≡ true

    abbrev IsOrdered : List Label → Type 0
    IsOrdered xs = IsOrderOf same_label (near g) (is_before default) W xs

    -- all are placed, or there are turns for the others
    placing : (n : ℕ) (placed : List Label) → ArePlaced placed → IsDistinct same_label placed → IsAll placed ⊎ (length placed + n ≡ length walked)
        → IsOrdered (placed_in default g walked n placed)
    placing zero placed are once (inl all) = record { places = are; all = all }
    placing zero placed are once (inr e) = record { places = are; all = full placed are once (omega (arith, e)) }
    placing (suc n) placed are once enough = go (next_in default g walked placed) (next_is placed) enough (placing n)
      where
        go : (o : Option Label) → IsNext placed o → IsAll placed ⊎ (length placed + suc n ≡ length walked)
            → ((more : List Label) → ArePlaced more → IsDistinct same_label more → IsAll more ⊎ (length more + n ≡ length walked) → IsOrdered (placed_in default g walked n more))
            → IsOrdered (placed_in default g walked n (placed ++ cons_option o []))
        go None none others onward =
            subst (λ (z : List Label). IsOrdered (placed_in default g walked n z)) (sym (append-nil placed)) (onward placed are once (inl (all_placed bound ends placed none)))
        go (Some x) least (inl all) onward = let h = all x least.ready.inside in let k = least.ready.unplaced in absurd (cc (h, k))
        go (Some x) least (inr e) onward = onward (placed ++ x ∷ []) (one_more placed x are least) (IsDistinct-push label_equiv placed x once least.ready.unplaced)
            (inr (omega (arith, e, length-append placed (x ∷ []))))

    nothing_twice : IsDistinct same_label []
    unfolding IsDistinct
    nothing_twice = tt

    pub in_their_order : IsOrdered (placed_in default g walked (length walked) [])
    in_their_order = placing (length walked) [] (λ k x e. absurd (cc e)) nothing_twice (inr (omega arith))
