use Rattle.gn_book.proofs.Orders.{kinds_ordered, no_ties}
use Rattle.gn_book.proofs.laws.tasks_are_in_order.Goals as goal

pub returns-clause-kinds : goal.returns-clause-kinds
returns-clause-kinds c = kinds_ordered

pub returns-clause-ties : goal.returns-clause-ties
returns-clause-ties c = no_ties
