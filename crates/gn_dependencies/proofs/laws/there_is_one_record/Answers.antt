use Rattle.gn_dependencies.proofs.OneRecord.{one_applied, one_pushed, one_pushed_public}
use Rattle.gn_dependencies.proofs.laws.there_is_one_record.Goals as goal

pub returns-clause-applied : goal.returns-clause-applied
returns-clause-applied c = one_applied

pub returns-clause-pushed : goal.returns-clause-pushed
returns-clause-pushed c = one_pushed

pub returns-clause-public : goal.returns-clause-public
returns-clause-public c = one_pushed_public
