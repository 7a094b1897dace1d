use Rattle.gn_core.proofs.Counting.{limits_computed}
use Rattle.gn_core.proofs.laws.limits_are_computed.Goals as goal

pub returns : goal.returns
returns c = limits_computed
