use Rattle.std.proofs.Common.{◌≡◌, List, OnOk, ap, subst, ◌∙◌}
use Rattle.gn_labels.specs.declared.label.Label.{Label}
use Rattle.gn_rows.specs.declared.variable.Variable.TheVariants.{Configs}
use Rattle.gn_dependencies.specs.Lists.{added}
use Rattle.gn_dependencies.specs.Shape.{Shape}
use Rattle.gn_dependencies.specs.Configurations.{all_dependent, public_configs}
use Rattle.gn_chains.proofs.Thrice.{last_of_three}
use Rattle.gn_chains.proofs.configurations.add_own.Goals as goal

pub returns : goal.returns
returns g c =
    let s : Shape = g.G.Graph.shape c.args.graph.now in
    let t = c.args.target.now in
    let out = c.args.out.now in
    let one = c.add_all.new.self in
    let two = c.add_all-2.new.self in
    last_of_three c.add_all-3.result out one two c.add_all-3.new.self (s.lists t Configs) (all_dependent s t) (public_configs s t)
    (c.in_ok-add_all.ensures ∙ ap (added out) c.labels.ensures)
    (c.in_ok-add_all-2.ensures ∙ ap (added one) c.labels-2.ensures)
    (subst (λ (z : List Label). OnOk c.add_all-3.result (c.add_all-3.new.self ≡ added two z)) c.labels-3.ensures c.add_all-3.ensures)
