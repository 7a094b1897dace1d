use Rattle.std.proofs.Common.{◌≡◌, ◌↔◌, true, map, refl, subst}
use Rattle.gn_closure.specs.Closure.{In}
use Rattle.gn_closure.specs.Reach.{Fact, Holds}
use Rattle.gn_closure.specs.Ground.{Holding}
use Rattle.gn_closure.specs.Computed.{holds_in}
use Rattle.gn_closure.specs.Least.{IsTooLarge}
use Rattle.gn_graph.specs.Needs.{home}
use Rattle.gn_graph.specs.Graphs.{Answers, told_by}
use Rattle.gn_graph.specs.Numbers.{IsTable}
use Rattle.gn_graph.specs.Replies.{units_in, all_rules}
use Rattle.gn_graph.proofs.Reached.{graph_whole, graph_computed}
use Rattle.gn_graph.proofs.graph.Graph.found.Goals as goal

pub returns-clause-whole : goal.returns-clause-whole
returns-clause-whole c = subst (λ (z : Answers). (f : Fact) → In z.found (Holding f) ↔ Holds home (units_in z.replies) f) c.self.view_is
    (graph_whole c.self.inside.closure.found (all_rules (map told_by c.self.inside.told.items)) (map told_by c.self.inside.told.items) c.self.invariant.single refl c.self.invariant.whole.whole)

pub returns-clause-computed : goal.returns-clause-computed
returns-clause-computed c = subst (λ (z : Answers). (IsTooLarge home (units_in z.replies) → ⊥) → (f : Fact) → In z.found (Holding f) ↔ (holds_in home (units_in z.replies) f ≡ true)) c.self.view_is
    (graph_computed c.self.inside.closure.found (all_rules (map told_by c.self.inside.told.items)) (map told_by c.self.inside.told.items) c.self.invariant.single refl c.self.invariant.whole.whole)

pub returns-clause-once : goal.returns-clause-once
returns-clause-once c = subst (λ (z : Answers). IsTable z.found) c.self.view_is c.self.invariant.whole.once
