use Rattle.std.proofs.lemmas.Result.{IfOk-weaker}
use Rattle.gn_dependencies.specs.Inherited.{AreLibraries}
use Rattle.gn_dependencies.specs.Shape.{Shape}
use Rattle.gn_chains.specs.Walked.{AreWalked}
use Rattle.gn_chains.proofs.inheriting.libraries.Goals as goal
use Rattle.gn_labels.specs.declared.label.Label.{Label}

pub libraries_among-labels-requires : goal.libraries_among-labels-requires
libraries_among-labels-requires g c = (c.args.target.now, c.requires, c.in_ok-reached.ensures)

pub returns : goal.returns
returns g c =
    let s : Shape = g.G.Graph.shape c.args.graph.now in
    let default = g.G.Graph.default c.args.graph.now in
    let t = c.args.target.now in
    IfOk-weaker c.libraries_among-labels.result (λ v. (t : Label) → AreWalked s t c.in_ok-reached.reached.labels → AreLibraries default s t v.items) (λ v. AreLibraries default s t v.items)
    (λ v h. h t c.in_ok-reached.ensures.walked) c.libraries_among-labels.ensures
