use Rattle.gn_projects.proofs.Whole.{filed_is_meant, order_does_not_matter}
use Rattle.gn_projects.proofs.laws.order_does_not_matter.Goals as goal

pub returns-clause-filed : goal.returns-clause-filed
returns-clause-filed c = filed_is_meant

pub returns-clause-agree : goal.returns-clause-agree
returns-clause-agree c = order_does_not_matter
