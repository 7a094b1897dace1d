use Rattle.gn_orders.proofs.Rounds.{answers_so}
use Rattle.gn_orders.proofs.laws.answers_are_in_order.Goals as goal

pub returns : goal.returns
returns c = answers_so
