use Rattle.gn_faults.proofs.OrderLemmas.{one_before}
use Rattle.gn_faults.proofs.laws.fault_order_has_no_ties.Goals as goal

pub returns : goal.returns
returns c = one_before
