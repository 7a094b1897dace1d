use Rattle.gn_graph_faults.proofs.OneList.{one_list}
use Rattle.gn_graph_faults.proofs.laws.there_is_one_list_of_faults.Goals as goal

pub returns : goal.returns
returns c = one_list
