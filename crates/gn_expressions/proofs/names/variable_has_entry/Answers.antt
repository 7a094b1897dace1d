use Rattle.std.proofs.Common.{arith}
use Rattle.std.proofs.lemmas.Grind.{common_steps}
use Rattle.gn_value_model.proofs.Items.{entries_of-binds}
use Rattle.gn_expressions.proofs.names.variable_has_entry.Goals as goal

pub returns-in-Some-Scope : goal.returns-in-Some-Scope
returns-in-Some-Scope c = record { runs = λ out. grind (arith, common_steps, entries_of-binds) }
