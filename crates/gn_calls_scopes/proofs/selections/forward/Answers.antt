use Rattle.std.proofs.Common.{arith}
use Rattle.std.proofs.lemmas.Grind.{common_steps}
use Rattle.gn_value_model.proofs.Items.{entries_of-binds}
use Rattle.gn_meaning.specs.Selections.{forwarded_runs}
use Rattle.gn_calls_scopes.proofs.selections.forward.Goals as goal

pub returns-in-Value-Scope : goal.returns-in-Value-Scope
unfolding forwarded_runs
returns-in-Value-Scope c = λ out. grind (arith, common_steps, entries_of-binds)
