use Rattle.gn_labels.proofs.OrderLemmas.{keys_ordered}
use Rattle.gn_labels.proofs.laws.keys_are_in_label_order.Goals as goal

pub returns : goal.returns
returns c = keys_ordered
