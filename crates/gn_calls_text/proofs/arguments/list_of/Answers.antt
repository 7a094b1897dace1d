use Rattle.std.proofs.Common.{arith}
use Rattle.std.proofs.lemmas.Grind.{common_steps}
use Rattle.gn_value_model.proofs.Items.{list_of-vals}
use Rattle.gn_calls_text.proofs.arguments.list_of.Goals as goal

pub returns-in-List-clause-ok : goal.returns-in-List-clause-ok
returns-in-List-clause-ok c = grind (arith, common_steps, list_of-vals)
