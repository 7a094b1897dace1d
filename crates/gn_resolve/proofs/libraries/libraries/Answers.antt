use Rattle.std.proofs.Common.{◌≡◌, ap, ◌∙◌}
use Rattle.std.proofs.lemmas.Result.{IfOk-weaker}
use Rattle.gn_resolve.specs.Table.{libraries_in, AreTaken}
use Rattle.gn_resolve.proofs.libraries.libraries.Goals as goal

pub returns : goal.returns
returns c =
    let items = c.args.graph.now.items in
    let r = c.args.graph.now.records in
    IfOk-weaker c.taken.result (λ h. h ≡ libraries_in items r c.as_slice.result.now) (AreTaken c.args.graph.now.default.now items r c.args.target.now)
    (λ h e. (c.in_ok-labels.labels.items, c.in_ok-labels.ensures, e ∙ ap (libraries_in items r) c.as_slice.ensures.value)) c.taken.ensures
