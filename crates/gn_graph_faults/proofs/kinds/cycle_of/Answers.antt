use Rattle.std.proofs.Common.{sym, ◌∙◌}
use Rattle.gn_graph_faults.proofs.kinds.cycle_of.Goals as goal

pub returns-then-has : goal.returns-then-has
returns-then-has g c =
    c.settled_targets_lie_on_no_cycle.ensures (g.G.Graph.shape c.args.graph.now) c.args.settled.now c.args.target.now c.requires (sym c.has.ensures ∙ c.if-has.true)
