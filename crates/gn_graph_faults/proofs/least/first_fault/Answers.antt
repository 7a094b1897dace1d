use Rattle.gn_graph_faults.specs.Faults.{facts_of}
use Rattle.gn_graph_faults.proofs.Leasts.{first_told}
use Rattle.gn_graph_faults.proofs.least.first_fault.Goals as goal

pub returns : goal.returns
returns g c = first_told
    (facts_of (g.G.Graph.default c.args.graph.now) (g.G.Graph.shape c.args.graph.now) (g.G.Marks.visibility c.args.graph.now) (g.G.Marks.testonly c.args.graph.now) (g.G.Marks.forbidden c.args.graph.now)
    (g.G.Places.places c.args.graph.now)) c.args.target.now c.in_ok-faults.faults.items c.in_ok-faults.ensures c.first_of.result c.first_of.ensures
