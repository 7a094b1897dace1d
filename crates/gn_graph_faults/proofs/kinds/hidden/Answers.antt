use Rattle.gn_graph_faults.specs.Faults.{facts_of}
use Rattle.gn_graph_faults.proofs.Sentences.{hidden_faulty}
use Rattle.gn_graph_faults.proofs.kinds.hidden.Goals as goal

pub returns : goal.returns
returns g c = hidden_faulty
    (facts_of (g.G.Graph.default c.args.graph.now) (g.G.Graph.shape c.args.graph.now) (g.G.Marks.visibility c.args.graph.now) (g.G.Marks.testonly c.args.graph.now) (g.G.Marks.forbidden c.args.graph.now)
    (g.G.Places.places c.args.graph.now)) c.args.target.now c.in_ok-labels.labels.items c.in_ok-configs.configs.items c.append.new.self.items c.in_ok-labels.ensures c.in_ok-configs.ensures
    c.in_ok-append.ensures.items
