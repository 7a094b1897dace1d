use Rattle.gn_graph_meant.proofs.Listed.{items_are_enough}
use Rattle.gn_graph_meant.proofs.laws.the_labels_of_items_are_enough.Goals as goal

pub returns : goal.returns
returns c = items_are_enough
