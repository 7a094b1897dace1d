use Rattle.std.proofs.Common.{arith}
use Rattle.std.proofs.lemmas.Grind.{common_steps}
use Rattle.gn_values.specs.Text.{text_of}
use Rattle.gn_values.specs.Operators.{element_of}
use Rattle.gn_value_model.proofs.Items.{entries_of-binds}
use Rattle.gn_environment.specs.Environment.{after_read}
use Rattle.gn_expressions.proofs.names.read_variable_entry.Goals as goal

pub returns-in_ok-copy-in-Some-get : goal.returns-in_ok-copy-in-Some-get
unfolding element_of
returns-in_ok-copy-in-Some-get c = record { runs = λ out. grind (arith, common_steps, entries_of-binds) }

pub returns-in-None-get : goal.returns-in-None-get
unfolding after_read text_of element_of
returns-in-None-get c = record { runs = λ out. grind (arith, common_steps, entries_of-binds) }
