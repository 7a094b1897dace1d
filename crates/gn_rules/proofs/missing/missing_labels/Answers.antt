use Rattle.std.proofs.Common.{◌++◌, List, Bool, filter, ap, ◌∙◌}
use Rattle.gn_labels.specs.declared.label.Label.{Label}
use Rattle.gn_rows.specs.declared.variable.Variable.TheVariants.{Pool}
use Rattle.gn_dependencies.specs.Shape.{Shape, all_deps}
use Rattle.gn_dependencies.specs.Configurations.{own_configs}
use Rattle.gn_rules.specs.Rules.{is_missing}
use Rattle.gn_rules.proofs.Filters.{behind_nothing}
use Rattle.gn_rules.proofs.missing.missing_labels.Goals as goal

pub returns : goal.returns
returns g c =
    let s : Shape = g.G.Graph.shape c.args.graph.now in
    let t = c.args.target.now in
    let p : Label → Bool = is_missing s in
    let q : Label → Bool = is_missing s in
    let r : Label → Bool = is_missing s in
    behind_nothing c.new-out.result.items c.add_breaking_deps.new.out.items c.add_breaking_configs.new.out.items c.add_breaking.new.out.items
    (filter p (all_deps s t)) (filter q (own_configs s t)) (filter r (s.lists t Pool)) c.new-out.ensures.items c.in_ok-add_breaking_deps.ensures c.in_ok-add_breaking_configs.ensures
    (c.in_ok-add_breaking.ensures ∙ ap (λ (z : List Label). c.add_breaking_configs.new.out.items ++ filter r z) c.labels-pool.ensures)
