use Rattle.gn_graph_faults.specs.Faults.{facts_of}
use Rattle.gn_graph_faults.proofs.Sentences.{missing_faulty}
use Rattle.gn_graph_faults.proofs.kinds.add_missing.Goals as goal

pub add_each-requires : goal.add_each-requires
add_each-requires g c = missing_faulty
    (facts_of (g.G.Graph.default c.args.graph.now) (g.G.Graph.shape c.args.graph.now) (g.G.Marks.visibility c.args.graph.now) (g.G.Marks.testonly c.args.graph.now) (g.G.Marks.forbidden c.args.graph.now)
    (g.G.Places.places c.args.graph.now)) c.args.target.now _ c.in_ok-labels.ensures
