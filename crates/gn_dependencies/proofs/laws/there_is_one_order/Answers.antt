use Rattle.gn_dependencies.proofs.Inheriting.{one_order, one_inherited}
use Rattle.gn_dependencies.proofs.laws.there_is_one_order.Goals as goal

pub returns-clause-order : goal.returns-clause-order
returns-clause-order c = λ default g t xs ys a b. one_order c.label_order_has_no_ties.ensures default g t xs ys a b

pub returns-clause-inherited : goal.returns-clause-inherited
returns-clause-inherited c = λ default g t xs ys a b. one_inherited c.label_order_has_no_ties.ensures default g t xs ys a b
