use Rattle.gn_resolved_meant.proofs.Handing.{hard_along, hard_within, hard_joined, are_the_hard}
use Rattle.gn_resolved_meant.proofs.laws.hard_targets_come_along.Goals as goal

pub returns-clause-along : goal.returns-clause-along
returns-clause-along c = hard_along c.label_order_has_no_ties.ensures

pub returns-clause-within : goal.returns-clause-within
returns-clause-within c = hard_within c.label_order_has_no_ties.ensures

pub returns-clause-joined : goal.returns-clause-joined
returns-clause-joined c = hard_joined c.label_order_has_no_ties.ensures

pub returns-clause-is : goal.returns-clause-is
returns-clause-is c = are_the_hard c.label_order_has_no_ties.ensures
