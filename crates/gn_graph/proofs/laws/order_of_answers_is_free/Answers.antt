use Rattle.gn_graph.proofs.Order.{order_free}
use Rattle.gn_graph.proofs.laws.order_of_answers_is_free.Goals as goal

pub returns : goal.returns
returns c = order_free
