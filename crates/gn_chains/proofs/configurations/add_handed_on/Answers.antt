use Rattle.std.proofs.Common.{◌≡◌, ap, ◌∙◌}
use Rattle.std.specs.List.{flat_map}
use Rattle.gn_dependencies.specs.Lists.{added}
use Rattle.gn_dependencies.specs.Shape.{Shape, near}
use Rattle.gn_dependencies.specs.Configurations.{Records, all_dependent}
use Rattle.gn_dependencies.proofs.Joins.{then_last}
use Rattle.gn_chains.proofs.configurations.add_handed_on.Goals as goal

pub returns : goal.returns
returns g c =
    let s : Shape = g.G.Graph.shape c.args.graph.now in
    let r : Records = g.G.Graph.records c.args.graph.now in
    let t = c.args.target.now in
    let one : c.add_all.new.self ≡ added c.args.out.now (all_dependent s t) = c.in_ok-add_all.ensures ∙ ap (added c.args.out.now) c.labels.ensures in
    then_last c.add_near_pushed.result c.args.out.now c.add_all.new.self c.add_near_pushed.new.out (all_dependent s t) (flat_map r.pushed (near s t)) one c.add_near_pushed.ensures
