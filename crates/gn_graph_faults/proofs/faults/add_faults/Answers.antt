use Rattle.gn_graph_faults.specs.Faults.{facts_of}
use Rattle.gn_graph_faults.proofs.ToldMore.{all_of_them}
use Rattle.gn_graph_faults.proofs.faults.add_faults.Goals as goal

pub returns : goal.returns
returns g c = all_of_them c.add_forbidden.result
    (facts_of (g.G.Graph.default c.args.graph.now) (g.G.Graph.shape c.args.graph.now) (g.G.Marks.visibility c.args.graph.now) (g.G.Marks.testonly c.args.graph.now) (g.G.Marks.forbidden c.args.graph.now)
    (g.G.Places.places c.args.graph.now)) c.args.target.now c.args.out.now.items c.add_missing.new.out.items c.add_foreign.new.out.items c.add_cycle.new.out.items c.add_hidden.new.out.items
    c.add_for_tests.new.out.items c.add_forbidden.new.out.items c.requires.empty c.in_ok-add_missing.ensures c.in_ok-add_foreign.ensures c.in_ok-add_cycle.ensures c.in_ok-add_hidden.ensures
    c.in_ok-add_for_tests.ensures c.add_forbidden.ensures
