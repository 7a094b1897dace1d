use Rattle.gn_graph_meant.proofs.Ways.{finds_shortest}
use Rattle.gn_graph_meant.proofs.laws.the_shortest_path_is_found.Goals as goal

pub returns : goal.returns
returns c = finds_shortest
