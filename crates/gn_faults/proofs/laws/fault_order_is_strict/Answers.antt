use Rattle.gn_faults.proofs.OrderLemmas.{before_itself}
use Rattle.gn_faults.proofs.laws.fault_order_is_strict.Goals as goal

pub returns : goal.returns
returns c = before_itself
