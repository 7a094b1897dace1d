use Rattle.gn_labels.proofs.OrderLemmas.{before_itself}
use Rattle.gn_labels.proofs.laws.label_order_is_strict.Goals as goal

pub returns : goal.returns
returns c = before_itself
