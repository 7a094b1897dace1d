use Rattle.std.proofs.Common.{arith}
use Rattle.gn_graph_faults.specs.Faults.{facts_of}
use Rattle.gn_graph_faults.proofs.Leasts.{none_has}
use Rattle.gn_graph_faults.proofs.least.least_fault.Goals as goal

pub returns : goal.returns
returns g c = none_has
    (facts_of (g.G.Graph.default c.args.graph.now) (g.G.Graph.shape c.args.graph.now) (g.G.Marks.visibility c.args.graph.now) (g.G.Marks.testonly c.args.graph.now) (g.G.Marks.forbidden c.args.graph.now)
    (g.G.Places.places c.args.graph.now)) c.args.targets.now c.loop-target.target-index (omega arith) c.loop-target.invariant
