use Rattle.gn_graph_faults.proofs.Leasts.{first_is_least}
use Rattle.gn_graph_faults.proofs.laws.the_first_fault_is_the_least.Goals as goal

pub returns : goal.returns
returns c = first_is_least
