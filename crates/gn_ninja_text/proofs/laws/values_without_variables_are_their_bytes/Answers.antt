use Rattle.gn_ninja_text.proofs.ValueLemmas.{same_without_variables}
use Rattle.gn_ninja_text.proofs.laws.values_without_variables_are_their_bytes.Goals as goal

pub returns : goal.returns
returns c = same_without_variables
