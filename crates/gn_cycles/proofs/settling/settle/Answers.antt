use Rattle.std.proofs.Common.{sym, ◌∙◌}
use Rattle.gn_cycles.proofs.Bounds.{one_more_settled}
use Rattle.gn_cycles.proofs.settling.settle.Goals as goal

pub returns-in_ok-add : goal.returns-in_ok-add
returns-in_ok-add g c =
    one_more_settled (g.G.Graph.shape c.args.graph.now) c.args.settled.now c.add.new.self c.args.label.now c.requires (sym c.has_dependencies.ensures ∙ c.if-has_dependencies.true) c.in_ok-add.ensures
