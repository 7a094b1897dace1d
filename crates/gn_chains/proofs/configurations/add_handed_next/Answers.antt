use Rattle.std.proofs.Common.{◌≡◌, List, ap, ◌∙◌}
use Rattle.std.specs.List.{flat_map}
use Rattle.std.proofs.lemmas.Result.{on_ok_weaker}
use Rattle.gn_labels.specs.declared.label.Label.{Label}
use Rattle.gn_dependencies.specs.Lists.{added}
use Rattle.gn_dependencies.specs.Shape.{Shape, public_near}
use Rattle.gn_dependencies.specs.Configurations.{Records, public_configs}
use Rattle.gn_dependencies.proofs.Joins.{then_last}
use Rattle.gn_chains.proofs.configurations.add_handed_next.Goals as goal

pub returns : goal.returns
returns g c =
    let s : Shape = g.G.Graph.shape c.args.graph.now in
    let r : Records = g.G.Graph.records c.args.graph.now in
    let t = c.args.target.now in
    let one : c.add_all.new.self ≡ added c.args.out.now (public_configs s t) = c.in_ok-add_all.ensures ∙ ap (added c.args.out.now) c.labels.ensures in
    then_last c.add_pushed_public.result c.args.out.now c.add_all.new.self c.add_pushed_public.new.out (public_configs s t) (flat_map r.pushed_public (public_near s t)) one
    (on_ok_weaker c.add_pushed_public.result (λ h. h ∙ ap (λ (z : List Label). added c.add_all.new.self (flat_map r.pushed_public z)) c.labels-dependencies.ensures) c.add_pushed_public.ensures)
