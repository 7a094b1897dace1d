use Rattle.gn_dependencies.proofs.Merge.{applied_settled, pushed_settled, pushed_public_settled}
use Rattle.gn_dependencies.proofs.laws.records_come_from_dependencies.Goals as goal

pub returns-clause-applied : goal.returns-clause-applied
returns-clause-applied c = applied_settled

pub returns-clause-pushed : goal.returns-clause-pushed
returns-clause-pushed c = pushed_settled

pub returns-clause-public : goal.returns-clause-public
returns-clause-public c = pushed_public_settled
