use Rattle.gn_resolved_meant.proofs.Sorted.{members_decide, puts_in_order, is_in_order}
use Rattle.gn_resolved_meant.proofs.laws.labels_have_one_order.Goals as goal

pub returns-clause-one : goal.returns-clause-one
returns-clause-one c = members_decide

pub returns-clause-puts : goal.returns-clause-puts
returns-clause-puts c = puts_in_order c.label_order_has_no_ties.ensures

pub returns-clause-is : goal.returns-clause-is
returns-clause-is c = is_in_order c.label_order_has_no_ties.ensures
