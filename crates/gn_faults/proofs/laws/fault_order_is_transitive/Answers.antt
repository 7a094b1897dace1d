use Rattle.gn_faults.proofs.OrderLemmas.{before_before}
use Rattle.gn_faults.proofs.laws.fault_order_is_transitive.Goals as goal

pub returns : goal.returns
returns c = before_before
