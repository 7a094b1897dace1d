use Rattle.std.specs.List.{flat_map}
use Rattle.gn_dependencies.specs.Shape.{Shape, near}
use Rattle.gn_dependencies.specs.Configurations.{Records, own_configs}
use Rattle.gn_chains.proofs.Thrice.{last_of_three}
use Rattle.gn_chains.proofs.configurations.add_applied.Goals as goal

pub returns : goal.returns
returns g c =
    let s : Shape = g.G.Graph.shape c.args.graph.now in
    let r : Records = g.G.Graph.records c.args.graph.now in
    let t = c.args.target.now in
    last_of_three c.add_near_pushed_public.result c.args.out.now c.add_own.new.out c.add_near_pushed.new.out c.add_near_pushed_public.new.out
    (own_configs s t) (flat_map r.pushed (near s t)) (flat_map r.pushed_public (near s t))
    c.in_ok-add_own.ensures c.in_ok-add_near_pushed.ensures c.add_near_pushed_public.ensures
