use Rattle.std.proofs.Common.{◌≡◌, List, sym, subst, ap, ◌∙◌}
use Rattle.std.proofs.lemmas.Result.{IfOk-weaker}
use Rattle.gn_labels.specs.declared.label.Label.{Label}
use Rattle.gn_dependencies.specs.Lists.{added}
use Rattle.gn_dependencies.specs.Shape.{Shape}
use Rattle.gn_dependencies.specs.Configurations.{Records, pushed_from, IsPushed}
use Rattle.gn_dependencies.proofs.Merge.{pushed_settled}
use Rattle.gn_chains.proofs.configurations.pushed.Goals as goal

pub returns : goal.returns
returns g c =
    let s : Shape = g.G.Graph.shape c.args.graph.now in
    let r : Records = g.G.Graph.records c.args.graph.now in
    let t = c.args.target.now in
    IfOk-weaker c.into_vec.result (λ v. v.items ≡ c.add_handed_on.new.out) (λ v. IsPushed s t v.items)
    (λ v e. subst (λ (z : List Label). IsPushed s t z) (sym (e ∙ c.in_default.ensures ∙ ap (λ (z : List Label). added z (pushed_from s r t)) c.new-out.ensures)) (pushed_settled s r t c.requires)) c.into_vec.ensures
