use Rattle.std.proofs.Common.{Bool}
use Rattle.gn_labels.specs.declared.label.Label.{Label}
use Rattle.gn_rows.specs.declared.variable.Variable.TheVariants.{Configs, AllDependentConfigs, PublicConfigs}
use Rattle.gn_dependencies.specs.Shape.{Shape}
use Rattle.gn_rules.specs.Naming.{breaks}
use Rattle.gn_rules.proofs.Filters.{last_of_three}
use Rattle.gn_rules.proofs.breaking.add_breaking_configs.Goals as goal

pub returns : goal.returns
returns g c =
    let s : Shape = g.G.Graph.shape c.args.graph.now in
    let t = c.args.target.now in
    let p : Label → Bool = breaks c.args.rule s (g.G.Marks.visibility c.args.graph.now) (g.G.Marks.testonly c.args.graph.now) t in
    last_of_three p c.add_breaking-3.result c.args.out.now.items c.add_breaking.new.out.items c.add_breaking-2.new.out.items c.add_breaking-3.new.out.items
    (s.lists t Configs) (s.lists t AllDependentConfigs) (s.lists t PublicConfigs) c.labels-own.result.now c.labels-all_dependent.result.now c.labels-public.result.now
    c.labels-own.ensures c.labels-all_dependent.ensures c.labels-public.ensures
    c.in_ok-add_breaking.ensures c.in_ok-add_breaking-2.ensures c.add_breaking-3.ensures
