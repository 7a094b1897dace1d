use Rattle.gn_labels.proofs.OrderLemmas.{one_before}
use Rattle.gn_labels.proofs.laws.label_order_has_no_ties.Goals as goal

pub returns : goal.returns
returns c = one_before
