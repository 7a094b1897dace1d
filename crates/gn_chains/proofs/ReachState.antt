-- The state of a walk for libraries.
use Rattle.std.proofs.Common.{◌≡◌, ℕ, ◌+◌, ◌<◌, ◌≤◌, List, [], filter, map, length, Some, slice_get, sym, ◌∙◌, ap}
use Rattle.gn_labels.specs.declared.label.Label.{Label}
use Rattle.gn_dependencies.specs.Lists.{added}
use Rattle.gn_dependencies.specs.Shape.{Shape, near}
use Rattle.gn_dependencies.specs.Inherited.{walks, opens}
use Rattle.gn_dependencies.proofs.OrderLaws.{at_some}
use Rattle.gn_chains.specs.declared.graph.Node.{Node}
use Rattle.gn_chains.specs.declared.reached.Reached.{Reached}
use Rattle.gn_chains.specs.Reached.{facts_of, shown, opened_by, AreNodes, IsMore, IsReached}
use Rattle.gn_chains.proofs.WalkState.{WalkState, walk_start, walk_on, walk_done}
use Rattle.gn_chains.proofs.Reaching.{known_at}

pub record ReachState (g : Shape) (t : Label) (r : Reached) (next : ℕ) : Type 0 where
  pub walk : WalkState (near g) (λ d. walks (g.kind d)) (λ d. opens (g.kind d)) t r.labels next
  pub nodes : AreNodes g r.labels r.nodes.items

pub reach_start : (g : Shape) (t : Label) (old new : Reached) → old.labels ≡ [] → old.nodes.items ≡ [] → IsMore g (near g t) old new → ReachState g t new 0
reach_start g t old new e f m = record {
  walk = walk_start (near g) (λ d. walks (g.kind d)) (λ d. opens (g.kind d)) t new.labels (m.labels ∙ ap (λ (z : List Label). added z (filter (λ d. walks (g.kind d)) (near g t))) e);
  nodes = m.nodes (ap (λ (z : List Node). map shown z) f ∙ sym (ap (λ (z : List Label). map (facts_of g) z) e));
}

pub reach_on : (g : Shape) (t : Label) (old new : Reached) (next : ℕ) (node : Node) → ReachState g t old next → next < length old.labels → slice_get old.nodes.items next ≡ Some node
    → IsMore g (opened_by (shown node)) old new → ReachState g t new (next + 1)
reach_on g t old new next node s l e m =
    let z = at_some old.labels next l in record {
      walk = walk_on (near g) (λ d. walks (g.kind d)) (λ d. opens (g.kind d)) t old.labels new.labels next z.0 s.walk z.1
          (m.labels ∙ ap (λ f. added old.labels (filter (λ d. walks (g.kind d)) (opened_by f))) (known_at g old.labels old.nodes.items next z.0 node s.nodes z.1 e));
      nodes = m.nodes s.nodes;
    }

pub reach_done : (g : Shape) (t : Label) (r : Reached) (next : ℕ) → ReachState g t r next → length r.labels ≤ next → IsReached g t r
reach_done g t r next s l = record {
  walked = λ q. (λ h. s.walk.sound q h, λ w. walk_done (near g) (λ d. walks (g.kind d)) (λ d. opens (g.kind d)) t r.labels next s.walk l q w);
  nodes = s.nodes;
}
