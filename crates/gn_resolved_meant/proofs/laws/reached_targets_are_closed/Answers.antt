use Rattle.gn_resolved_meant.proofs.Reaching.{reaches_those, reached_closed, are_the_reached}
use Rattle.gn_resolved_meant.proofs.laws.reached_targets_are_closed.Goals as goal

pub returns-clause-those : goal.returns-clause-those
returns-clause-those c = reaches_those c.label_order_has_no_ties.ensures

pub returns-clause-closed : goal.returns-clause-closed
returns-clause-closed c = reached_closed c.label_order_has_no_ties.ensures

pub returns-clause-is : goal.returns-clause-is
returns-clause-is c = are_the_reached c.label_order_has_no_ties.ensures
