use Rattle.gn_resolved_meant.proofs.Inheriting.{walks_those, inherits, are_the_inherited}
use Rattle.gn_resolved_meant.proofs.laws.inherited_libraries_are_placed.Goals as goal

pub returns-clause-walked : goal.returns-clause-walked
returns-clause-walked c = walks_those

pub returns-clause-inherits : goal.returns-clause-inherits
returns-clause-inherits c = inherits c.label_order_has_no_ties.ensures

pub returns-clause-is : goal.returns-clause-is
returns-clause-is c = are_the_inherited c.label_order_has_no_ties.ensures c.there_is_one_order.ensures.inherited
