use Rattle.gn_items.proofs.NameLemmas.{names_differ}
use Rattle.gn_items.proofs.laws.executions_of_different_keys_differ.Goals as goal

pub returns : goal.returns
returns c = names_differ
