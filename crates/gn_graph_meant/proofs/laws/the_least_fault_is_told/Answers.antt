use Rattle.gn_graph_meant.proofs.Findings.{tells_faults}
use Rattle.gn_graph_meant.proofs.Leasts.{tells_least}
use Rattle.gn_graph_meant.proofs.laws.the_least_fault_is_told.Goals as goal

pub returns-clause-faults : goal.returns-clause-faults
returns-clause-faults c =
    tells_faults c.codes_have_different_numbers.ensures c.label_order_has_no_ties.ensures c.there_is_one_shortest_path.ensures

pub returns-clause-least : goal.returns-clause-least
returns-clause-least c =
    tells_least (tells_faults c.codes_have_different_numbers.ensures c.label_order_has_no_ties.ensures c.there_is_one_shortest_path.ensures)
