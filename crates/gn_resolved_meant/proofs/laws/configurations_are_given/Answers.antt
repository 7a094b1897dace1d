use Rattle.gn_resolved_meant.proofs.Settled.{settles_applied, settles_pushed, settles_public}
use Rattle.gn_resolved_meant.proofs.laws.configurations_are_given.Goals as goal

pub returns-clause-applied : goal.returns-clause-applied
returns-clause-applied c = settles_applied

pub returns-clause-pushed : goal.returns-clause-pushed
returns-clause-pushed c = settles_pushed

pub returns-clause-public : goal.returns-clause-public
returns-clause-public c = settles_public
