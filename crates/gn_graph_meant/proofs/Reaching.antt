-- What a walk through targets meets are the ends of paths over the dependencies that it meets, and the first that is forbidden is found.
use Rattle.std.proofs.Common.{◌≡◌, ◌↔◌, inl, inr, ℕ, List, [], ◌∷◌, ◌++◌, Option, Some, None, is_some, slice_get, filter, Bool, true, false, ◌||◌, ◌&&◌, refl, sym, ◌∙◌, ap, subst}
use Rattle.std.specs.List.{Contains, flat_map}
use Rattle.std.specs.List.Sorted.{IsStrictlySortedBy}
use Rattle.std.proofs.lemmas.Bool.{and_parts}
use Rattle.std.proofs.lemmas.Map.Views.{Contains-from_any, list_any-from_Contains}
use Rattle.gn_labels.specs.declared.label.Label.{Label}
use Rattle.gn_labels.specs.declared.pattern.Pattern.{Pattern}
use Rattle.gn_labels.specs.Labels.{label_order, is_before}
use Rattle.gn_dependencies.specs.Lists.{same_label, has}
use Rattle.gn_dependencies.specs.Shape.{Shape, Path, all_deps, end_from}
use Rattle.gn_dependencies.specs.Cycles.{IsPath, OnlyThese}
use Rattle.gn_dependencies.specs.Walks.{IsMet, first, onward}
use Rattle.gn_dependencies.proofs.Same.{same, label_equiv}
use Rattle.gn_dependencies.proofs.Has.{has-filter, or_true}
use Rattle.gn_dependencies.proofs.Kept.{has-append}
use Rattle.gn_chains.specs.declared.kinds.Walk.TheVariants.{Targets}
use Rattle.gn_chains.specs.Walking.{meets, IsMetBy}
use Rattle.gn_cycles.specs.Shortest.{IsShortestPath}
use Rattle.gn_rules.specs.Rules.{is_matched, MustNotReach, IsForbiddenTarget}
use Rattle.gn_graph_meant.specs.Ways.{shortest_path_in}
use Rattle.gn_graph_meant.specs.Computed.{in_order, targets_met, is_forbidden, forbidden_in}
use Rattle.gn_graph_meant.specs.Laws.{OnlyFrom, FindsForbidden}
use Rattle.gn_graph_meant.proofs.Ways.{finds_shortest}
use Rattle.gn_graph_meant.proofs.Members.{contains_first, contains_cases, contains_nothing}
use Rattle.gn_graph_meant.proofs.InOrder.{in_order_rises, in_order_contains, comes_behind}
use Rattle.gn_graph_meant.proofs.Orders.{HasNoTies, labels_total, labels_alike, not_before, not_before_itself}

pub both_true : (a b : Bool) → a ≡ true → b ≡ true → (a && b) ≡ true
both_true true b h k = k
both_true false b h k = absurd (cc h)

pub has_passed : (p : Label → Bool) (xs : List Label) (d : Label) → has xs d ≡ true → p d ≡ true → has (filter p xs) d ≡ true
has_passed p xs d h k = has-filter p d xs ∙ both_true (has xs d) (p d) h k

pub passed_has : (p : Label → Bool) (xs : List Label) (d : Label) → has (filter p xs) d ≡ true → (has xs d ≡ true) × (p d ≡ true)
passed_has p xs d h = and_parts (has xs d) (p d) (sym (has-filter p d xs) ∙ h)

pub has_flat : (f : Label → List Label) (xs : List Label) (c q : Label) → has xs c ≡ true → has (f c) q ≡ true → has (flat_map f xs) q ≡ true
has_flat f [] c q h k = absurd (cc h)
has_flat f (x ∷ xs) c q h k = go (same_label c x) refl h (λ i. has_flat f xs c q i k)
  where
    go : (b : Bool) → same_label c x ≡ b → (b || has xs c) ≡ true → (has xs c ≡ true → has (flat_map f xs) q ≡ true) → has (f x ++ flat_map f xs) q ≡ true
    go true e i others =
        has-append (f x) (flat_map f xs) q ∙ ap (λ b. b || has (flat_map f xs) q) (ap (λ (z : Label). has (f z) q) (sym (same c x e)) ∙ k)
    go false e i others = has-append (f x) (flat_map f xs) q ∙ ap (λ b. has (f x) q || b) (others i) ∙ or_true (has (f x) q)

pub path_more : (next : Label → List Label) (t d : Label) (p : Path) → IsPath next t p → has (next (end_from t p)) d ≡ true → IsPath next t (p ++ d ∷ [])
path_more next t d [] h i = absurd h
path_more next t d (x ∷ []) h i = (h, i)
path_more next t d (x ∷ y ∷ p) h i = (h.0, path_more next x d (y ∷ p) h.1 i)

pub end_more : (t d : Label) (p : Path) → end_from t (p ++ d ∷ []) ≡ d
end_more t d [] = refl
end_more t d (x ∷ p) = end_more x d p

module _ (next : Label → List Label) (m : Label → Bool) where
  abbrev over : Label → List Label
  over t = filter m (next t)

  to_path : (t q : Label) → IsMet next m m t q → (p : Path) × IsPath over t p × (end_from t p ≡ q)
  to_path t q (first d h w) = (d ∷ [], has_passed m (next t) d h w, refl)
  to_path t q (onward c d i o h w) =
      let r = to_path t c i in
      let k : has (over (end_from t r.0)) d ≡ true = ap (λ (z : Label). has (over z) d) r.2 ∙ has_passed m (next c) d h w in
      (r.0 ++ d ∷ [], path_more over t d r.0 r.1 k, end_more t d r.0)

  -- whatever is met stands among the dependencies of some label
  source : (t q : Label) → IsMet next m m t q → (c : Label) × (has (over c) q ≡ true)
  source t q (first d h w) = (t, has_passed m (next t) d h w)
  source t q (onward c d i o h w) = (c, has_passed m (next c) d h w)

  from_met : (t c : Label) (p : Path) → IsMet next m m t c → m c ≡ true → IsPath over c p → IsMet next m m t (end_from c p)
  from_met t c [] i o h = absurd h
  from_met t c (d ∷ []) i o h = let k = passed_has m (next c) d h in onward c d i o k.0 k.1
  from_met t c (d ∷ e ∷ p) i o h = let k = passed_has m (next c) d h.0 in from_met t d (e ∷ p) (onward c d i o k.0 k.1) k.1 h.1

  from_path : (t : Label) (p : Path) → IsPath over t p → IsMet next m m t (end_from t p)
  from_path t [] h = absurd h
  from_path t (d ∷ []) h = let k = passed_has m (next t) d h in first d k.0 k.1
  from_path t (d ∷ e ∷ p) h = let k = passed_has m (next t) d h.0 in from_met t d (e ∷ p) (first d k.0 k.1) k.1 h.1

module _ (no_ties : HasNoTies) (all : List Label) (default : List ℕ) (g : Shape) (forbidden : Label → List Pattern) (only : OnlyThese g all) (t : Label) where
  abbrev is_met : Label → Bool
  is_met d = meets Targets (g.kind d)

  abbrev candidates : List Label
  candidates = filter (is_forbidden all g forbidden t) (flat_map (targets_met g) all)

  only_met : OnlyFrom (targets_met g) all
  only_met c d h = only c d (passed_has is_met (all_deps g c) d h).0

  found : (q : Label) → IsShortestPath (targets_met g) t q (shortest_path_in all (targets_met g) t q)
  found q = finds_shortest all (targets_met g) only_met t q

  reached_if : (q : Label) (o : Option Path) → IsShortestPath (targets_met g) t q o → is_some o ≡ true → IsMetBy Targets g t q
  reached_if q None s h = absurd (cc h)
  reached_if q (Some p) s h = subst (λ (z : Label). IsMetBy Targets g t z) s.ends (from_path (all_deps g) is_met t p s.path)

  if_reached : (q : Label) (o : Option Path) → IsShortestPath (targets_met g) t q o → IsMetBy Targets g t q → is_some o ≡ true
  if_reached q None s h = let r = to_path (all_deps g) is_met t q h in absurd (s r.0 r.1 r.2)
  if_reached q (Some p) s h = refl

  to : (q : Label) → has candidates q ≡ true → MustNotReach g forbidden t q
  to q h =
      let k = passed_has (is_forbidden all g forbidden t) (flat_map (targets_met g) all) q h in
      let m = and_parts (is_matched (forbidden t) q) (is_some (shortest_path_in all (targets_met g) t q)) k.1 in
      (reached_if q (shortest_path_in all (targets_met g) t q) (found q) m.1, m.0)

  back : (q : Label) → MustNotReach g forbidden t q → has candidates q ≡ true
  back q m =
      let c = source (all_deps g) is_met t q m.0 in
      let h : has (flat_map (targets_met g) all) q ≡ true = has_flat (targets_met g) all c.0 q (only_met c.0 q c.1) c.1 in
      let r : is_some (shortest_path_in all (targets_met g) t q) ≡ true = if_reached q (shortest_path_in all (targets_met g) t q) (found q) m.0 in
      has_passed (is_forbidden all g forbidden t) (flat_map (targets_met g) all) q h
      (both_true (is_matched (forbidden t) q) (is_some (shortest_path_in all (targets_met g) t q)) m.1 r)

  first_of : (ys : List Label) → IsStrictlySortedBy (label_order default) ys → ((q : Label) → Contains ys q ↔ MustNotReach g forbidden t q)
      → IsForbiddenTarget default g forbidden t (slice_get ys 0)
  first_of [] s each = λ q m. contains_nothing q ((each q).1 m)
  first_of (x ∷ ys) s each = (
    (each x).0 (contains_first x ys),
    λ y m. elim (contains_cases x ys y ((each y).1 m)) [
      | inl e ↦ subst (λ (z : Label). is_before default z x ≡ false) e (not_before_itself default x)
      | inr b ↦ not_before default x y (comes_behind (label_order default) x ys s y b)
    ],
  )

  pub first_found : IsForbiddenTarget default g forbidden t (forbidden_in all default g forbidden t)
  unfolding forbidden_in
  first_found = first_of (in_order (label_order default) candidates) (in_order_rises (label_order default) candidates) (λ q.
      let same_ones = in_order_contains (label_order default) (labels_total default) (labels_alike no_ties default) candidates q in (
        (λ c. to q (list_any-from_Contains label_equiv q candidates (same_ones.0 c))),
        (λ m. same_ones.1 (Contains-from_any same q candidates (back q m))),
      ))

pub finds_forbidden : HasNoTies → FindsForbidden
finds_forbidden no_ties all default g forbidden only t = first_found no_ties all default g forbidden only t
