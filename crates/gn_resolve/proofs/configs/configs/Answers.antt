use Rattle.std.proofs.Common.{◌≡◌, ap, ◌∙◌}
use Rattle.std.proofs.lemmas.Result.{IfOk-weaker}
use Rattle.gn_records.specs.Around.{fields_of}
use Rattle.gn_resolve.specs.Table.{configs_of, AreFields}
use Rattle.gn_resolve.proofs.configs.configs.Goals as goal

pub returns : goal.returns
returns c =
    let items = c.args.graph.now.items in
    IfOk-weaker c.configs_of.result (λ list. fields_of list.items ≡ configs_of items c.as_slice.result.now) (λ list. AreFields items c.args.target.now (fields_of list.items))
    (λ list e. (c.in_ok-labels.labels.items, c.in_ok-labels.ensures, e ∙ ap (configs_of items) c.as_slice.ensures.value)) c.configs_of.ensures
