use Rattle.gn_cycles.proofs.Orders.{one_first}
use Rattle.gn_cycles.proofs.laws.there_is_one_shortest_path.Goals as goal

pub returns : goal.returns
returns c = λ next t goal p q a b. one_first next t p q (a.first q b.path b.ends) (b.first p a.path a.ends)
