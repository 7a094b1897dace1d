use Rattle.gn_orders.proofs.Consequences.{reads_so, defaults_so}
use Rattle.gn_orders.proofs.laws.definitions_keep_what_reads_find_at_ends.Goals as goal

pub returns-clause-variables : goal.returns-clause-variables
returns-clause-variables c = reads_so

pub returns-clause-defaults : goal.returns-clause-defaults
returns-clause-defaults c = defaults_so
