use Rattle.std.proofs.Common.{sym, ◌∙◌}
use Rattle.gn_value_model.proofs.Items.{list_of-vals}
use Rattle.gn_values.proofs.value.Items.into_vec.Goals as goal
use Rattle.gn_basics.proofs.Results.{if_ok}

pub returns-clause-items : goal.returns-clause-items
returns-clause-items c = if_ok c.into_vec.result (λ r is. list_of-vals c.args.self ∙ sym (is ∙ c.self.view_is)) c.into_vec.ensures
