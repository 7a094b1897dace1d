use Rattle.std.proofs.Common.{List, ℕ, subst}
use Rattle.gn_graph.specs.Numbers.{IsMore}
use Rattle.gn_graph.proofs.Places.{placed_once}
use Rattle.gn_graph.proofs.Results.{more_put}
use Rattle.gn_graph.proofs.held.Held.put.Goals as goal

pub returns-clause-more : goal.returns-clause-more
returns-clause-more c =
    subst (λ (z : List ℕ). IsMore z c.put_last.new.list.items) c.self.view_is
    (more_put c.put_last.result c.self.inside.list.items c.put_last.new.list.items c.args.p c.put_last.ensures.ok c.put_last.ensures.err)

pub returns-clause-once : goal.returns-clause-once
returns-clause-once c = placed_once c.put_last.new.list.items c.put_last.new.places.items c.put_last.ensures.places
