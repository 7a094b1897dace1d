use Rattle.gn_chains.specs.Walking.{meets}
use Rattle.gn_chains.proofs.Thrice.{filtered_three}
use Rattle.gn_chains.proofs.walk.add_all_met.Goals as goal

pub returns : goal.returns
returns g c =
    filtered_three c.add_met-3.result (λ d. meets c.args.walk ((g.G.Graph.shape c.args.graph.now).kind d)) c.args.out.now c.add_met.new.out c.add_met-2.new.out c.add_met-3.new.out
    c.args.labels.0.now c.args.labels.1.now c.args.labels.2.now c.in_ok-add_met.ensures c.in_ok-add_met-2.ensures c.add_met-3.ensures
