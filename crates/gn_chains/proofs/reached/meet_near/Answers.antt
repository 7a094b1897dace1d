use Rattle.std.proofs.Common.{◌≡◌, List, ◌++◌, OnOk, ap, subst, ◌∙◌}
use Rattle.gn_labels.specs.declared.label.Label.{Label}
use Rattle.gn_rows.specs.declared.variable.Variable.TheVariants.{PublicDeps, Deps}
use Rattle.gn_dependencies.specs.Shape.{Shape}
use Rattle.gn_chains.specs.Reached.{IsMore}
use Rattle.gn_chains.proofs.reached.meet_near.Goals as goal

pub returns : goal.returns
returns g c =
    let s : Shape = g.G.Graph.shape c.args.graph.now in
    let public : List Label = s.lists c.args.target.now PublicDeps in
    let private : List Label = c.node-node.result.private.now in
    let first : c.node-node.result.public.now ++ private ≡ public ++ private = ap (λ (z : List Label). z ++ private) c.node-node.ensures.public in
    let second : public ++ private ≡ public ++ s.lists c.args.target.now Deps = ap (λ (z : List Label). public ++ z) c.node-node.ensures.private in
    subst (λ (z : List Label). OnOk c.meet_both.result (IsMore s z c.args.out.now c.meet_both.new.out)) (first ∙ second) c.meet_both.ensures
