use Rattle.gn_graph.proofs.Order.{more_reach}
use Rattle.gn_graph.proofs.laws.more_answers_reach_more.Goals as goal

pub returns : goal.returns
returns c = more_reach
