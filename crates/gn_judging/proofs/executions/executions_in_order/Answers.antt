use Rattle.std.proofs.Common.{map, ap, sym, subst, ◌∙◌}
use Rattle.std.proofs.lemmas.Result.{IfOk-weaker}
use Rattle.gn_builds.specs.Rest.{AreInOrder}
use Rattle.gn_judging.specs.Executions.{number_of}
use Rattle.gn_judging.proofs.ExecutionLemmas.{all_numbered}
use Rattle.gn_judging.proofs.executions.executions_in_order.Goals as goal

pub returns : goal.returns
returns c =
    let all = all_numbered c.args.default.now c.args.book.now c.keys_differ.ensures _ _ c.in_ok-entries.ensures c.in_ok-put_in_order.ensures in
    IfOk-weaker c.numbers_of.result _ _ (λ numbers is. subst (AreInOrder c.args.default.now c.args.book.now) (sym (is ∙ ap (map number_of) c.deref.ensures.value)) all) c.numbers_of.ensures
