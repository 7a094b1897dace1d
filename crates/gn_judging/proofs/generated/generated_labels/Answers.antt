use Rattle.std.proofs.Common.{map, ap, sym, subst, ◌∙◌}
use Rattle.std.proofs.lemmas.Result.{IfOk-weaker}
use Rattle.gn_builds.specs.Rest.{AreGenerated}
use Rattle.gn_judging.specs.Generated.{label_lent}
use Rattle.gn_judging.proofs.GeneratedLemmas.{all_generated}
use Rattle.gn_judging.proofs.generated.generated_labels.Goals as goal

pub returns : goal.returns
returns c =
    let all = all_generated c.args.default.now c.args.book.now _ c.graph.ensures _ _ c.in_ok-labels.ensures c.in_ok-put_in_order.ensures in
    IfOk-weaker c.all_copied.result _ _ (λ labels is. subst (AreGenerated c.args.default.now c.args.book.now) (sym (is ∙ ap (map (label_lent c.args.default.now)) c.deref.ensures.value)) all) c.all_copied.ensures
