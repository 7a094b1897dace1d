-- Where no target of a closed list has a fault, none of them reaches a cycle.
use Rattle.std.proofs.Common.{◌≡◌, List, [], ◌∷◌, Option, Some, None, Bool, true, false, ◌||◌, refl, sym, subst}
use Rattle.std.specs.List.{IsDistinct}
use Rattle.std.proofs.lemmas.Map.Keys.{IsDistinct-cons}
use Rattle.gn_labels.specs.declared.label.Label.{Label}
use Rattle.gn_faults.specs.declared.code.Code.TheVariants.{Cycle}
use Rattle.gn_dependencies.specs.Lists.{same_label, has}
use Rattle.gn_dependencies.specs.Shape.{Path, all_deps}
use Rattle.gn_dependencies.specs.Cycles.{IsChain, OnlyThese}
use Rattle.gn_dependencies.specs.Laws.{NoCycleBoundsPaths}
use Rattle.gn_dependencies.proofs.Same.{same}
use Rattle.gn_cycles.specs.Shortest.{IsApart, IsShortestPath}
use Rattle.gn_graph_faults.specs.Faults.{Facts, lies_on_cycle}
use Rattle.gn_graph_faults.specs.Least.{IsFaultless, IsLeastFault}
use Rattle.gn_graph_meant.specs.Ways.{shortest_path_in}
use Rattle.gn_graph_meant.specs.Laws.{FindsShortest, TellsLeast}
use Rattle.gn_graph_meant.proofs.Shortening.{apart, alone}
use Rattle.gn_resolved_meant.specs.Laws.{IsClosed, FaultlessEnd}
use Rattle.gn_resolved_meant.proofs.Leading.{Leads, longer}

-- the part of a chain up to a label is a path to it
path_to : (next : Label → List Label) (x q : Label) (xs : List Label) → IsChain next (x ∷ xs) → has xs q ≡ true → Leads next x q
path_to next x q [] c h = absurd (cc h)
path_to next x q (y ∷ ys) c h = go (same_label q y) refl (path_to next y q ys c.1) h
  where
    go : (b : Bool) → same_label q y ≡ b → (has ys q ≡ true → Leads next y q) → (b || has ys q) ≡ true → Leads next x q
    go true e onward i = (y ∷ [], c.0, sym (same q y e))
    go false e onward i = let r = onward i in (y ∷ r.0, longer next x y r.0 c.0 r.1, r.2)

isnt : (b : Bool) → (b ≡ true → ⊥) → b ≡ false
isnt true h = absurd (h refl)
isnt false h = refl

module _ (finds : FindsShortest) (all : List Label) (facts : Facts) (only : OnlyThese facts.shape all) where
  -- a target without a fault lies on no cycle
  on_no_cycle : (u : Label) → IsFaultless facts u → IsApart (all_deps facts.shape) u u
  on_no_cycle u n = go (shortest_path_in all (all_deps facts.shape) u u) (finds all (all_deps facts.shape) only u u)
    where
      go : (o : Option Path) → IsShortestPath (all_deps facts.shape) u u o → IsApart (all_deps facts.shape) u u
      go None h = h
      go (Some p) h = absurd (n Cycle p (lies_on_cycle p h))

  module _ (us : List Label) (closed : IsClosed facts.shape us) (faultless : (u : Label) → has us u ≡ true → IsFaultless facts u) where
    free : (u : Label) → has us u ≡ true → (xs : List Label) → IsChain (all_deps facts.shape) (u ∷ xs) → IsDistinct same_label (u ∷ xs)
    free u h [] c = alone u
    free u h (d ∷ xs) c =
        let again : has (d ∷ xs) u ≡ false = isnt (has (d ∷ xs) u) (λ i.
        let p = path_to (all_deps facts.shape) u u (d ∷ xs) c i in on_no_cycle u (faultless u h) p.0 p.1 p.2) in
        IsDistinct-cons same_label u (d ∷ xs) (apart u (d ∷ xs) again) (free d (closed u d h c.0) xs c.1)

pub faultless_end : NoCycleBoundsPaths → FindsShortest → TellsLeast → FaultlessEnd
faultless_end bounded finds tells all facts only us closed none u h =
    let faultless : IsLeastFault facts us None = subst (IsLeastFault facts us) none (tells all facts only us) in
    bounded facts.shape all only u (free finds all facts only us closed faultless u h)
