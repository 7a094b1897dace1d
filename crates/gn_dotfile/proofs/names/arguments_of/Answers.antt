use Rattle.std.proofs.Common.{arith}
use Rattle.std.proofs.lemmas.Grind.{common_steps}
use Rattle.gn_value_model.proofs.Items.{entries_of-binds}
use Rattle.gn_dotfile.proofs.names.arguments_of.Goals as goal

pub returns-in_ok-to_bindings-in-Some-Scope : goal.returns-in_ok-to_bindings-in-Some-Scope
returns-in_ok-to_bindings-in-Some-Scope c = grind (arith, common_steps, entries_of-binds)
