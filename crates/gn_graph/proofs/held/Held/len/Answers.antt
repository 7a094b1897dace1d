use Rattle.std.proofs.Common.{List, ℕ, nat_eq, subst}
use Rattle.std.specs.List.{IsDistinct}
use Rattle.gn_graph.proofs.Places.{placed_once}
use Rattle.gn_graph.proofs.held.Held.len.Goals as goal

pub returns-clause-once : goal.returns-clause-once
returns-clause-once c = subst (λ (z : List ℕ). IsDistinct nat_eq z) c.self.view_is (placed_once c.self.inside.list.items c.self.inside.places.items c.self.invariant)
