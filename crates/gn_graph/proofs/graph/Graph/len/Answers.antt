use Rattle.std.proofs.Common.{◌↔◌, map, refl, subst}
use Rattle.gn_closure.specs.Closure.{In}
use Rattle.gn_closure.specs.Reach.{Fact, Holds}
use Rattle.gn_closure.specs.Ground.{Holding}
use Rattle.gn_graph.specs.Needs.{home}
use Rattle.gn_graph.specs.Graphs.{Answers, told_by}
use Rattle.gn_graph.specs.Replies.{units_in, all_rules}
use Rattle.gn_graph.proofs.Reached.{graph_whole}
use Rattle.gn_graph.proofs.graph.Graph.len.Goals as goal

pub returns-clause-whole : goal.returns-clause-whole
returns-clause-whole c = subst (λ (z : Answers). (f : Fact) → In z.found (Holding f) ↔ Holds home (units_in z.replies) f) c.self.view_is
    (graph_whole c.self.inside.closure.found (all_rules (map told_by c.self.inside.told.items)) (map told_by c.self.inside.told.items) c.self.invariant.single refl c.self.invariant.whole.whole)
