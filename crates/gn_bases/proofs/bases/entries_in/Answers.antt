use Rattle.std.proofs.Common.{sym, ◌∙◌}
use Rattle.gn_value_model.proofs.Items.{entries_of-binds}
use Rattle.gn_bases.proofs.bases.entries_in.Goals as goal

pub returns-in-Scope : goal.returns-in-Scope
returns-in-Scope c = rw c.in-Scope.is (c.as_slice.ensures.value ∙ sym (entries_of-binds c.in-Scope.entries))
