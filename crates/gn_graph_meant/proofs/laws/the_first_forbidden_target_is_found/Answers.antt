use Rattle.gn_graph_meant.proofs.Reaching.{finds_forbidden}
use Rattle.gn_graph_meant.proofs.laws.the_first_forbidden_target_is_found.Goals as goal

pub returns : goal.returns
returns c = finds_forbidden c.label_order_has_no_ties.ensures
