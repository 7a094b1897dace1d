use Rattle.std.proofs.Common.{arith}
use Rattle.std.proofs.lemmas.Grind.{common_steps}
use Rattle.gn_value_model.proofs.Items.{list_of-vals}
use Rattle.gn_meaning.specs.Selections.{strings_of}
use Rattle.gn_calls_scopes.proofs.selections.strings.Goals as goal

pub returns-in-List : goal.returns-in-List
unfolding strings_of
returns-in-List c = grind (arith, common_steps, list_of-vals)
